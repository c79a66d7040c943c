-- What the least that parts may count says of a bound.
use Rattle.std.proofs.Common.{◌≡◌, ℕ, suc, ◌<◌, ◌+◌, ℤ, pos, ◌+ℤ◌, ◌≤ℤ◌, Bool, true, false, not, Option}
use Rattle.std.proofs.Common.{Some, None, List, [], ◌∷◌, length, get_or, drop, slice_get, refl, sym, ap, ◌∙◌, subst}
use Rattle.std.proofs.Common.{◌⊎◌, inl, inr, ⊎_elim, arith, All, Any, Contains}
use Rattle.std.proofs.lemmas.Bool.{both_ways}
use Rattle.std.proofs.lemmas.List.{at_drop_more}
use Rattle.std.proofs.lemmas.List.Elements.{All-nil, All-cons, All-weaker, All-contains, All-drop}
use Rattle.std.proofs.lemmas.Option.{get_or_from_slice_get, same_Some, slice_get_within}
use Rattle.std.specs.Prelude.{IfSome, IsSome}
use Rattle.kb_logic.specs.declared.elements.ExtInt.{ExtInt}
use Rattle.kb_logic.specs.declared.syntax.AggKind.{AggKind}
use Rattle.kb_logic.specs.Denotations.{number}
use Rattle.lit_core.specs.declared.literals.Lit.{Lit}
use Rattle.lit_core.specs.Literals.{by_sign, literal_value, negated, value_in}
use Rattle.lit_core.proofs.LiteralFacts.{Contains-head, Contains-tail}
use Rattle.lit_core.specs.Truth.{IsSatisfied}
use Rattle.ground_core.specs.declared.parts.GroundTerm.{GroundTerm}
use Rattle.ground_core.specs.declared.parts.Part.{Part}
use Rattle.ground_core.specs.declared.parts.TermBound.{TermBound}
use Rattle.ground_core.specs.Meaning.{AreAllFalse, BoundHolds, term_value}
use Rattle.term_bounds.specs.Amounts.{is_under, lessened}
use Rattle.term_bounds.specs.Breaking.{HasLits, Holds, IsBroken, IsBrokenAt, IsNoTighter}
use Rattle.term_bounds.specs.Breaking.{IsOfBounds}
use Rattle.term_bounds.specs.Reasons.{IsReason}
use Rattle.term_bounds.specs.Shares.{IsDecidedAs, least_total, opened_total}
use Rattle.term_bounds.specs.Totals.{total, total_bound}
use Rattle.term_bounds.proofs.ShareFacts.{decided-total, opened-total-low}
use Rattle.std.proofs.lemmas.Int.{ints}
use Rattle.term_bounds.proofs.TotalFacts.{bounds-by-totals}

-- a valuation satisfies a clause, or makes all of it false
pub some-or-none : (v : ℕ → Bool) (c : List Lit) → IsSatisfied v c ⊎ AreAllFalse v c
some-or-none v [] = inr (All-nil (λ l. literal_value v l ≡ false))
some-or-none v (l ∷ c) = by_value (some-or-none v c) (literal_value v l) refl
  where
    by_value : (IsSatisfied v c ⊎ AreAllFalse v c) → (b : Bool) → literal_value v l ≡ b → IsSatisfied v (l ∷ c)
        ⊎ AreAllFalse v (l ∷ c)
    by_value r true e = inl (0, l, omega arith, refl, e)
    by_value r false e = ⊎_elim
        (λ s. inl (suc s.0, s.1, omega (arith, s.2), s.3, s.4))
        (λ rest. inr (All-cons (λ m. literal_value v m ≡ false) l c e rest))
        r

pub negated-off : (s x : Bool) → by_sign (not s) x ≡ false → by_sign s x ≡ true
negated-off true true e = refl
negated-off true false e = sym e
negated-off false true e = sym e
negated-off false false e = refl

module _ (t : GroundTerm) (b : TermBound) (a : List (Option Bool)) (k : AggKind) (bound : ExtInt) (ps : List Part)
    (kind : k ≡ t.kind) (is : bound ≡ lessened t.base b.below) (parts : ps ≡ t.parts) where
  by-total : (v : ℕ → Bool) → is_under b.below (term_value v t) ≡ is_under (total_bound k bound)
      (number (total v k bound ps))
  by-total v = rw (kind, is, parts) (bounds-by-totals v t b.below)

  -- where all has values, and the sum is below
  pub holds-where-below : is_under (total_bound k bound) (number (least_total a k bound ps)) ≡ true → (v : ℕ → Bool)
      → All (λ (p : Part). IsDecidedAs a v p.lit) t.parts → Holds v t b
  holds-where-below below v decided on =
      let all : All (λ (p : Part). IsDecidedAs a v p.lit) ps = subst (All (λ (p : Part). IsDecidedAs a v p.lit))
      (sym parts) decided in
      by-total v ∙ (ap (λ z. is_under (total_bound k bound) (number z)) (sym (decided-total a v k bound ps all))
      ∙ below)

  -- where the sum cannot be below
  pub broken-where-not : (spare : ℤ) (c : List Lit) → IsReason a k bound b.out ps spare c
      → ((z : ℤ) → least_total a k bound ps ≤ℤ (z +ℤ spare) → is_under (total_bound k bound) (number z) ≡ false)
      → IsBroken t b a c
  broken-where-not spare c r not-below =
      let enough : (v : ℕ → Bool) → AreAllFalse v c → least_total a k bound ps ≤ℤ (total v k bound ps +ℤ spare) =
      λ v off. (
      let more : (least_total a k bound ps +ℤ opened_total a v k bound ps) ≤ℤ (total v k bound ps +ℤ spare) =
      r.total v off in
      let low : pos 0 ≤ℤ opened_total a v k bound ps = opened-total-low a v k bound ps in
      omega (arith, ints, more, low)) in
      record {
        falsified = r.falsified;
        implied = λ v holds. ⊎_elim
            (λ s. s)
            (λ off.
            let out-off : literal_value v (negated b.out) ≡ false = All-contains (λ l. literal_value v l ≡ false) c
            (negated b.out) off r.output in
            let on : literal_value v b.out ≡ true = negated-off b.out.positive (v b.out.var.0) out-off in
            let under : is_under (total_bound k bound) (number (total v k bound ps)) ≡ true = sym (by-total v) ∙ holds on in
            absurd (both_ways false refl (sym (not-below (total v k bound ps) (enough v off)) ∙ under)))
            (some-or-none v c);
        within = subst (λ (qs : List Part). All (λ (l : Lit). (b.out.var.0 ≡ l.var.0)
            ⊎ Any (λ (u : Part). u.lit.var.0 ≡ l.var.0) qs) c) parts r.within;
      }

-- one of the bounds, and its term
module _ (terms : List GroundTerm) (bounds : List TermBound) (a : List (Option Bool)) (i : ℕ) (b : TermBound)
    (t : GroundTerm) (at-bound : slice_get bounds i ≡ Some b) (at-term : slice_get terms b.term ≡ Some t) where
  pub bound-held : (v : ℕ → Bool) → BoundHolds v terms b → Holds v t b
  bound-held v h on = by_term (slice_get terms b.term) at-term (h on)
    where
      by_term : (o : Option GroundTerm) → o ≡ Some t → IfSome o (λ u. is_under b.below (term_value v u) ≡ true)
          → is_under b.below (term_value v t) ≡ true
      by_term None e g = cc
      by_term (Some u) e g = subst (λ (x : GroundTerm). is_under b.below (term_value v x) ≡ true) (same_Some u t e) g

  in-bounds : i < length bounds
  in-bounds = slice_get_within bounds i b at-bound

  is-bound : get_or bounds i b ≡ b
  is-bound = get_or_from_slice_get bounds i b b at-bound

  in-terms : b.term < length terms
  in-terms = slice_get_within terms b.term t at-term

  is-term : get_or terms b.term t ≡ t
  is-term = get_or_from_slice_get terms b.term t t at-term

  -- where it is broken, one of all is
  pub broken-one : (c : List Lit) → IsBroken t b a c → IsBrokenAt terms bounds a i c
  broken-one c h = record {
    falsified = h.falsified;
    bound = b;
    there = at-bound;
    implied = λ v holds. h.implied v (bound-held v holds);
    within = All-weaker (λ (l : Lit). (b.out.var.0 ≡ l.var.0) ⊎ Any (λ (u : Part). u.lit.var.0 ≡ l.var.0) t.parts)
        (IsOfBounds terms bounds)
        (λ l way. ⊎_elim
        (λ same. inl (i, b, in-bounds, is-bound, same))
        (λ w. inr (b.term, t, in-terms, is-term, w))
        way)
        c h.within;
  }

  -- where it holds, and those after it
  pub hold-here : (v : ℕ → Bool) → HasLits (IsDecidedAs a v) terms bounds → ((w : ℕ → Bool) → IsDecidedAs a w b.out
      → All (λ (p : Part). IsDecidedAs a w p.lit) t.parts → Holds w t b)
      → All (BoundHolds v terms) (drop (i + 1) bounds) → All (BoundHolds v terms) (drop i bounds)
  hold-here v decided holds rest =
      let out : IsDecidedAs a v b.out = subst (λ (x : TermBound). IsDecidedAs a v x.out) is-bound
      (decided.1 i b in-bounds) in
      let parts : All (λ (p : Part). IsDecidedAs a v p.lit) t.parts =
      subst (λ (x : GroundTerm). All (λ (p : Part). IsDecidedAs a v p.lit) x.parts) is-term
      (decided.0 b.term t in-terms) in
      let here : BoundHolds v terms b = λ on. rw at-term (holds v out parts on) in
      let split : drop i bounds ≡ b ∷ drop (i + 1) bounds = at_drop_more (λ (xs : List TermBound). xs) bounds i b
      in-bounds ∙ ap (λ (x : TermBound). x ∷ drop (i + 1) bounds) is-bound in
      subst (All (BoundHolds v terms)) (sym split) (All-cons (BoundHolds v terms) b (drop (i + 1) bounds) here rest)

-- what is noted of the bounds from a place on: one of them that is in force, if any
abbrev pub IsNoted : List TermBound → List (Option Bool) → ℕ → Option TermBound → Type 0
IsNoted bounds a i o = IfSome o (λ b. Contains (drop i bounds) b × (value_in a b.out ≡ Some true))

module _ (terms : List GroundTerm) (bounds : List TermBound) (a : List (Option Bool)) (i : ℕ) (b : TermBound)
    (at-bound : slice_get bounds i ≡ Some b) where
  split-here : drop i bounds ≡ b ∷ drop (i + 1) bounds
  split-here = at_drop_more (λ (xs : List TermBound). xs) bounds i b (slice_get_within bounds i b at-bound)
      ∙ ap (λ (x : TermBound). x ∷ drop (i + 1) bounds) (get_or_from_slice_get bounds i b b at-bound)

  pub noted-later : (o : Option TermBound) → IsNoted bounds a (i + 1) o → IsNoted bounds a i o
  noted-later None h = tt
  noted-later (Some t) h = (
    subst (λ (xs : List TermBound). Contains xs t) (sym split-here)
        (Contains-tail b (drop (i + 1) bounds) t h.0),
    h.1,
  )

  pub noted-here : (o r : Option TermBound) → IsNoted bounds a (i + 1) o
      → ((r ≡ Some b) × (value_in a b.out ≡ Some true)) ⊎ (r ≡ o) → IsNoted bounds a i r
  noted-here o r h way = ⊎_elim
      (λ w. subst (IsNoted bounds a i) (sym w.0) (
        subst (λ (xs : List TermBound). Contains xs b) (sym split-here) (Contains-head b (drop (i + 1) bounds)),
        w.1,
      ))
      (λ same. subst (IsNoted bounds a i) (sym same) (noted-later o h))
      way

  -- where it follows from one after it that is in force
  pub hold-implied : (tight : TermBound) → IsNoTighter b tight → Contains (drop (i + 1) bounds) tight
      → value_in a tight.out ≡ Some true → (v : ℕ → Bool) → HasLits (IsDecidedAs a v) terms bounds
      → All (BoundHolds v terms) (drop (i + 1) bounds) → All (BoundHolds v terms) (drop i bounds)
  hold-implied tight follows has true-now v decided rest =
      let out : IsDecidedAs a v tight.out = All-contains (λ (x : TermBound). IsDecidedAs a v x.out)
      (drop (i + 1) bounds) tight (All-drop (λ (x : TermBound). IsDecidedAs a v x.out) (i + 1) bounds decided.1) has in
      let on : literal_value v tight.out ≡ true = sym (same_Some true (literal_value v tight.out)
      (sym true-now ∙ out)) in
      let held : BoundHolds v terms tight = All-contains (BoundHolds v terms) (drop (i + 1) bounds) tight rest has in
      let below : IfSome (slice_get terms b.term) (λ u. is_under tight.below (term_value v u) ≡ true) =
      subst (λ (k : ℕ). IfSome (slice_get terms k) (λ u. is_under tight.below (term_value v u) ≡ true)) follows.0
      (held on) in
      let here : BoundHolds v terms b = λ _. lower (slice_get terms b.term) below in
      subst (All (BoundHolds v terms)) (sym split-here) (All-cons (BoundHolds v terms) b
      (drop (i + 1) bounds) here rest)
    where
      lower : (o : Option GroundTerm) → IfSome o (λ u. is_under tight.below (term_value v u) ≡ true)
          → IfSome o (λ u. is_under b.below (term_value v u) ≡ true)
      lower None h = tt
      lower (Some u) h = follows.1 (term_value v u) h

  -- where it follows from what is noted
  pub hold-followed : (o : Option TermBound) → IfSome o (λ t. IsNoTighter b t) × IsSome o → IsNoted bounds a (i + 1) o
      → (v : ℕ → Bool) → HasLits (IsDecidedAs a v) terms bounds → All (BoundHolds v terms) (drop (i + 1) bounds)
      → All (BoundHolds v terms) (drop i bounds)
  hold-followed None h noted v decided rest = let no : false ≡ true = h.1 in cc
  hold-followed (Some t) h noted v decided rest = hold-implied t h.0 noted.0 noted.1 v
      decided rest

-- a term is below a number exactly where the sum of its parts is below the bound on it
pub below-by-total : (t : GroundTerm) (below : ExtInt) (k : AggKind) (bound : ExtInt) (ps : List Part) (v : ℕ → Bool)
    → k ≡ t.kind → bound ≡ lessened t.base below → ps ≡ t.parts → is_under (total_bound k bound)
    (number (total v k bound ps)) ≡ is_under below (term_value v t)
below-by-total t below k bound ps v kind is parts = rw (kind, is, parts) (sym (bounds-by-totals v t below))
