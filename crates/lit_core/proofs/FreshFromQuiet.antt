-- Where no clause is false or unit, a clause that would be unit is fresh: the true literals are closed.
use Rattle.std.proofs.Common.{◌≡◌, ℕ, ◌+◌, zero, suc, Bool, true, false, not, Option, Some, None, List, [], ◌∷◌, refl}
use Rattle.std.proofs.Common.{sym, ap, subst, ◌∙◌, ◌⊎◌, inl, inr, ⊎_elim, All, Contains, get_or, arith}
use Rattle.std.proofs.lemmas.List.Elements.{All-contains}
use Rattle.lit_core.specs.declared.literals.Lit.{Lit}
use Rattle.lit_core.specs.Literals.{negated, value_in, by_sign_if_any}
use Rattle.lit_core.specs.Truth.{IsSettled}
use Rattle.lit_core.specs.Refutation.{IsUnitUnder}
use Rattle.lit_core.specs.Freshness.{IsFreshAt}
use Rattle.lit_core.proofs.LiteralFacts.{same_literal, Contains-cons_cases, Contains-head, Contains-tail}
use Rattle.lit_core.proofs.LiteralFacts.{nothing_in_none}

-- where a negation is true, the literal is false, and the other way round
pub false-from_negated : (a : List (Option Bool)) (m : Lit) → value_in a (negated m) ≡ Some true
    → value_in a m ≡ Some false
false-from_negated a m h = flip m.positive (get_or a m.var.0 None) h
  where
    flip : (p : Bool) (o : Option Bool) → by_sign_if_any (not p) o ≡ Some true → by_sign_if_any p o ≡ Some false
    flip p None h = cc
    flip true (Some true) h = cc
    flip true (Some false) h = refl
    flip false (Some true) h = refl
    flip false (Some false) h = cc

pub negated-from_false : (a : List (Option Bool)) (m : Lit) → value_in a m ≡ Some false
    → value_in a (negated m) ≡ Some true
negated-from_false a m h = flip m.positive (get_or a m.var.0 None) h
  where
    flip : (p : Bool) (o : Option Bool) → by_sign_if_any p o ≡ Some false → by_sign_if_any (not p) o ≡ Some true
    flip p None h = cc
    flip true (Some true) h = cc
    flip true (Some false) h = refl
    flip false (Some true) h = refl
    flip false (Some false) h = cc

-- the true literals, the first variable having this number
abbrev true_from : ℕ → List (Option Bool) → List Lit
true_from n [] = []
true_from n (None ∷ values) = true_from (suc n) values
true_from n (Some b ∷ values) = record { var = record { 0 = n }; positive = b } ∷ true_from (suc n) values

-- a literal whose variable has this value
abbrev IsValued : ℕ → List (Option Bool) → Lit → Type 0
IsValued n values l = (k : ℕ) × (l.var.0 ≡ k + n) × (get_or values k None ≡ Some l.positive)

valued-from_true : (n : ℕ) (values : List (Option Bool)) (l : Lit) → Contains (true_from n values) l
    → IsValued n values l
valued-from_true n [] l h = absurd (nothing_in_none l h)
valued-from_true n (None ∷ values) l h = let w = valued-from_true (suc n) values l h in
    (suc w.0, omega (arith, w.1), w.2)
valued-from_true n (Some b ∷ values) l h =
    let first : Lit = record { var = record { 0 = n }; positive = b } in
    ⊎_elim
    (λ e. (0, omega (arith, ap (λ (x : Lit). x.var.0) e), ap (λ (x : Lit). Some x.positive) e))
    (λ rest. let w = valued-from_true (suc n) values l rest in (suc w.0, omega (arith, w.1), w.2))
    (Contains-cons_cases first (true_from (suc n) values) l h)

true-from_valued : (n : ℕ) (values : List (Option Bool)) (l : Lit) (k : ℕ) → l.var.0 ≡ k + n → get_or values k None
    ≡ Some l.positive → Contains (true_from n values) l
true-from_valued n [] l k at h = cc
true-from_valued n (None ∷ values) l zero at h = cc
true-from_valued n (None ∷ values) l (suc k) at h = true-from_valued (suc n) values l k (omega (arith, at)) h
true-from_valued n (Some b ∷ values) l zero at h =
    let first : Lit = record { var = record { 0 = n }; positive = b } in
    let is : b ≡ l.positive = cc in
    let e : first ≡ l = same_literal first l (omega (arith, at)) is in
    subst (λ (x : Lit). Contains (first ∷ true_from (suc n) values) x) e
    (Contains-head first (true_from (suc n) values))
true-from_valued n (Some b ∷ values) l (suc k) at h =
    let first : Lit = record { var = record { 0 = n }; positive = b } in
    Contains-tail first (true_from (suc n) values) l (true-from_valued (suc n) values l k (omega (arith, at)) h)

sign_is : (p : Bool) (o : Option Bool) → by_sign_if_any p o ≡ Some true → o ≡ Some p
sign_is p None h = cc
sign_is true (Some true) h = refl
sign_is true (Some false) h = cc
sign_is false (Some true) h = cc
sign_is false (Some false) h = refl

is_sign : (p : Bool) (o : Option Bool) → o ≡ Some p → by_sign_if_any p o ≡ Some true
is_sign true o h = ap (by_sign_if_any true) h
is_sign false o h = ap (by_sign_if_any false) h

pub contains-true : (a : List (Option Bool)) (l : Lit) → value_in a l ≡ Some true → Contains (true_from 0 a) l
contains-true a l h = true-from_valued 0 a l l.var.0 (omega arith) (sign_is l.positive (get_or a l.var.0 None) h)

pub true-contains : (a : List (Option Bool)) (l : Lit) → Contains (true_from 0 a) l → value_in a l ≡ Some true
true-contains a l h =
    let w = valued-from_true 0 a l h in
    let e : l.var.0 ≡ w.0 = omega (arith, w.1) in
    is_sign l.positive (get_or a l.var.0 None) (ap (λ n. get_or a n None) e ∙ w.2)

pub fresh-from_quiet : (a : List (Option Bool)) (clauses : List (List Lit)) (c : List Lit) (l : Lit)
    → All (IsSettled a) clauses → Contains c l → value_in a l ≡ None → All (λ m. (m ≡ l) ⊎ (value_in a m ≡ Some false))
    c → IsFreshAt clauses c l
fresh-from_quiet a clauses c l quiet member free others =
    let inforce : List Lit = true_from 0 a in
    let is_false : (m : Lit) → Contains inforce (negated m) → value_in a m ≡ Some false =
    λ m h. false-from_negated a m (true-contains a (negated m) h) in
    let settled : (d : List Lit) → Contains clauses d → IsSettled a d =
    λ d h. All-contains (IsSettled a) clauses d quiet h in
    record {
      member = member;
      inforce = inforce;
      consistent = λ m h n. (let yes_value = true-contains a m h in let no_value = is_false m n in
          let e : Some true ≡ Some false = sym yes_value ∙ no_value in cc);
      others = λ k h. ⊎_elim (λ e. inl e) (λ f. inr (contains-true a (negated k) (negated-from_false a k f)))
          (All-contains (λ m. (m ≡ l) ⊎ (value_in a m ≡ Some false)) c k others h);
      closed = record {
        no_false = λ d h f. (settled d h).not_false (λ k x lt. is_false (get_or d k x) (f k x lt));
        no_unit = λ d m h u. open_is_unit d m (settled d h) u (value_in a m) refl;
      };
      opened = (
        (λ h. let e : None ≡ Some true = sym free ∙ true-contains a l h in cc),
        (λ h. let e : None ≡ Some false = sym free ∙ is_false l h in cc),
      );
    }
  where
    open_is_unit : (d : List Lit) (m : Lit) → IsSettled a d → IsUnitUnder (true_from 0 a) d m → (o : Option Bool)
        → value_in a m ≡ o → ⊥
    open_is_unit d m s u None e = s.not_unit m (record {
      member = u.member;
      unassigned = e;
      others =
          λ k x lt. ⊎_elim (λ f. inl f) (λ n. inr (false-from_negated a (get_or d k x)
          (true-contains a (negated (get_or d k x)) n))) (u.others k x lt);
    })
    open_is_unit d m s u (Some true) e = u.opened.0 (contains-true a m e)
    open_is_unit d m s u (Some false) e = u.opened.1 (contains-true a (negated m) (negated-from_false a m e))
