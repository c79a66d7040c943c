-- What a variable's element adds to the key, and where the variables lead from the start.
use Rattle.std.proofs.Common.{◌≡◌, ℕ, zero, suc, ◌+◌, ◌*◌, ◌<◌, ◌≤◌}
use Rattle.std.proofs.Common.{List, [], ◌∷◌, ◌++◌, length, get_or}
use Rattle.std.proofs.Common.{Some, None, refl, sym, ap}
use Rattle.std.proofs.Common.{subst, ◌∙◌, arith, slice_get, ◌==◌, inl, inr, ◌⊎◌, pos}
use Rattle.std.proofs.Common.{length-append, if◌then◌else◌}
use Rattle.std.specs.Option.{unwrap_or}
use Rattle.std.specs.List.{AllByRecursion, Contains}
use Rattle.std.proofs.lemmas.Bool.{cases_lt, eq-eqb, ne_eqb}
use Rattle.kb_logic.specs.declared.elements.Elem.{Elem}
use Rattle.kb_logic.specs.declared.elements.Elem.TheVariants.{Num}
use Rattle.kb_logic.specs.declared.vocabularies.Bound.{Bound}
use Rattle.kb_logic.specs.Trees.{TermTree, variable, integer, constructed, application, summation, product, aggregate}
use Rattle.kb_logic.specs.Trees.{TermTrees, no_terms, more_terms}
use Rattle.kb_logic.specs.Structures.{IsDistinct, choices, domain_at}
use Rattle.kb_logic.specs.Denotations.{denotation_of}
use Rattle.kb_logic.specs.Meaning.{element_value}
use Rattle.kb_logic.proofs.Assignments.{before}
use Rattle.kb_logic.proofs.Pairs.{pairs}
use Rattle.term_values.specs.DomainIndexes.{elem_index}
use Rattle.row_ranges.specs.Arguments.{argument_value, IsNoRow}
use Rattle.row_ranges.specs.Keys.{key_of, key_under, argument_place, own_step, step_of, HasType, HaveType, HaveSteps}
use Rattle.row_ranges.specs.Leads.{Leads}
use Rattle.row_ranges.proofs.Keying.{place-is, no-place, key-is}

distinct-at : (domains : List (List Elem)) (ty : ℕ) → AllByRecursion IsDistinct domains
    → IsDistinct (domain_at domains ty)
distinct-at [] ty h = tt
distinct-at (d ∷ domains) zero h = h.0
distinct-at (d ∷ domains) (suc ty) h = distinct-at domains ty h.1

-- the elements of an assignment of one variable
pub one-choice : (domains : List (List Elem)) (b : Bound) (i : ℕ) (d : Elem) → i < length (domain_at domains b.ty)
    → get_or (choices domains (b ∷ [])) i [] ≡ get_or (domain_at domains b.ty) i d ∷ []
one-choice domains b i d h = single (domain_at domains b.ty) i h
  where
    single : (xs : List Elem) (i : ℕ) → i < length xs
        → get_or (pairs before ([] ∷ []) xs) i [] ≡ get_or xs i d ∷ []
    single [] i h = absurd (omega (arith, h))
    single (x ∷ xs) zero h = refl
    single (x ∷ xs) (suc i) h = single xs i (omega (arith, h))

-- the element of a variable, where one more has its element
before-end : {X : Type 0} (xs : List X) (x : X) (n : ℕ) → n < length xs → slice_get (xs ++ x ∷ []) n ≡ slice_get xs n
before-end [] x n h = absurd (omega (arith, h))
before-end (y ∷ xs) x zero h = refl
before-end (y ∷ xs) x (suc n) h = before-end xs x n (omega (arith, h))

at-end : {X : Type 0} (xs : List X) (x : X) → slice_get (xs ++ x ∷ []) (length xs) ≡ Some x
at-end [] x = refl
at-end (y ∷ xs) x = at-end xs x

past-end : {X : Type 0} (xs : List X) (n : ℕ) → length xs ≤ n → slice_get xs n ≡ None
past-end [] n h = refl
past-end (y ∷ xs) zero h = absurd (omega (arith, h))
past-end (y ∷ xs) (suc n) h = past-end xs n (omega (arith, h))

past-both : {X : Type 0} (xs : List X) (x : X) (n : ℕ) → length xs < n → slice_get (xs ++ x ∷ []) n ≡ None
past-both [] x zero h = absurd (omega (arith, h))
past-both [] x (suc n) h = refl
past-both (y ∷ xs) x zero h = absurd (omega (arith, h))
past-both (y ∷ xs) x (suc n) h = past-both xs x n (omega (arith, h))

same-number : (m n : ℕ) (s : ℕ) → m ≡ n → (if (m == n) then s else 0) ≡ s
same-number m n s h = ap (λ b. if b then s else 0) (eq-eqb m n h)

other-number : (m n : ℕ) (s : ℕ) → (m ≡ n → ⊥) → (if (m == n) then s else 0) ≡ 0
other-number m n s h = ap (λ b. if b then s else 0) (ne_eqb m n h)

module _ (domains : List (List Elem)) (e : List Elem) (x : Elem) (i : ℕ) where
  abbrev P : ℕ → TermTree → List Elem → ℕ
  P own t a = argument_place domains own t a

  same-value : (own s : ℕ) (t : TermTree) (step : ℕ)
      → argument_value domains t (e ++ x ∷ []) ≡ argument_value domains t e → step ≡ 0
      → P own t (e ++ x ∷ []) * s ≡ P own t e * s + i * step
  same-value own s t step same none =
      let zero-step : i * step ≡ 0 = ap (λ k. i * k) none ∙ omega arith in
      ap (λ v. unwrap_or (elem_index (domain_at domains own) v) 0 * s) same ∙ omega (arith, zero-step)

  -- one argument
  own-more : (own s ty : ℕ) (t : TermTree) → elem_index (domain_at domains ty) (denotation_of x) ≡ Some i
      → HasType own ty t (length e)
      → P own t (e ++ x ∷ []) * s ≡ P own t e * s + i * own_step s t (length e)
  own-more own s ty (variable m) place typed = by (cases m (length e))
    where
      cases : (a b : ℕ) → (a < b) ⊎ ((a ≡ b) ⊎ (b < a))
      cases a b = elim (cases_lt a b) [
        | inl h ↦ inl h
        | inr h ↦ elim (cases_lt b a) [ inl k ↦ inr (inr k) | inr k ↦ inr (inl (omega (arith, h, k))) ]
      ]

      by : (m < length e) ⊎ ((m ≡ length e) ⊎ (length e < m))
          → P own (variable m) (e ++ x ∷ []) * s ≡ P own (variable m) e * s + i * own_step s (variable m) (length e)
      by (inl h) =
          same-value own s (variable m) (own_step s (variable m) (length e))
          (ap element_value (before-end e x m h)) (other-number m (length e) s (λ q. absurd (omega (arith, h, q))))
      by (inr (inl h)) =
          let type : own ≡ ty = typed (ap variable h) in
          let now : slice_get (e ++ x ∷ []) m ≡ Some x = ap (slice_get (e ++ x ∷ [])) h ∙ at-end e x in
          let old : slice_get e m ≡ None = past-end e m (omega (arith, h)) in
          let left : P own (variable m) (e ++ x ∷ []) ≡ i =
          ap (λ o. unwrap_or (elem_index (domain_at domains own) (element_value o)) 0) now
          ∙ (ap (λ k. unwrap_or (elem_index (domain_at domains k) (denotation_of x)) 0) type
          ∙ ap (λ o. unwrap_or o 0) place) in
          let right : P own (variable m) e ≡ 0 =
          ap (λ o. unwrap_or (elem_index (domain_at domains own) (element_value o)) 0) old
          ∙ ap (λ o. unwrap_or o 0) (no-place (domain_at domains own)) in
          let step = same-number m (length e) s h in
          ap (λ k. k * s) left ∙ sym (ap (λ k. k * s + i * own_step s (variable m) (length e)) right
          ∙ (ap (λ k. 0 * s + i * k) step ∙ omega arith))
      by (inr (inr h)) =
          same-value own s (variable m) (own_step s (variable m) (length e))
          (ap element_value (past-both e x m h ∙ sym (past-end e m (omega (arith, h)))))
          (other-number m (length e) s (λ q. absurd (omega (arith, h, q))))
  own-more own s ty (integer z) place typed = same-value own s (integer z) 0 refl refl
  own-more own s ty (constructed c n) place typed = same-value own s (constructed c n) 0 refl refl
  own-more own s ty (application f ts) place typed = same-value own s (application f ts) 0 refl refl
  own-more own s ty (summation ss) place typed = same-value own s (summation ss) 0 refl refl
  own-more own s ty (product ts) place typed = same-value own s (product ts) 0 refl refl
  own-more own s ty (aggregate k bs f t) place typed = same-value own s (aggregate k bs f t) 0 refl refl

  -- all of them
  pub key-more : (types own : List ℕ) (ty : ℕ) (ts : TermTrees)
      → elem_index (domain_at domains ty) (denotation_of x) ≡ Some i → HaveType types ty ts (length e)
      → key_under domains types own ts (e ++ x ∷ [])
      ≡ key_under domains types own ts e + i * step_of types own ts (length e)
  key-more [] own ty ts place typed = omega arith
  key-more (k ∷ types) [] ty ts place typed = omega arith
  key-more (k ∷ types) (s ∷ own) ty no_terms place typed = omega arith
  key-more (k ∷ types) (s ∷ own) ty (more_terms t ts) place typed =
      let one = own-more k s ty t place typed.0 in
      let rest = key-more types own ty ts place typed.1 in
      omega (arith, one, rest)

-- where the variables lead from the start
module _ (domains : List (List Elem)) (types own rows keys : List ℕ) (ts : TermTrees)
    (distinct : AllByRecursion IsDistinct domains)
    (keyed : (i : ℕ) → Contains rows i → Contains keys (key_of domains types own i)) where
  pub leads-from : (bs : List Bound) (steps : List ℕ) (e : List Elem) (key : ℕ)
      → key ≡ key_under domains types own ts e → HaveSteps types own ts (length e) bs steps
      → Leads (IsNoRow domains types rows ts) domains keys key steps bs e
  leads-from [] steps e key is have =
      λ none i at c. none (subst (Contains keys) (key-is domains types own ts e i at ∙ sym is) (keyed i c))
  leads-from (b ∷ bs) [] e key is have = have
  leads-from (b ∷ bs) (s ∷ steps) e key is have = λ i h.
      let d = Num (pos 0) in
      let x = get_or (domain_at domains b.ty) i d in
      let place = place-is (domain_at domains b.ty) i d (distinct-at domains b.ty distinct) h in
      let long : length (e ++ x ∷ []) ≡ suc (length e) = length-append e (x ∷ []) ∙ omega arith in
      let moved : key + i * s ≡ key_under domains types own ts (e ++ x ∷ []) =
      omega (arith, is, ap (λ k. i * k) have.0, key-more domains e x i types own b.ty ts place have.1) in
      subst (λ a. Leads (IsNoRow domains types rows ts) domains keys (key + i * s) steps bs (e ++ a))
      (sym (one-choice domains b i d h))
      (leads-from bs steps (e ++ x ∷ []) (key + i * s) moved
      (subst (λ n. HaveSteps types own ts n bs steps) (sym long) have.2))
