-- Which numbers a set has after one more is inserted.
use Rattle.std.proofs.Common.{◌≡◌, ℕ, List, [], ◌∷◌, length, refl, sym, ◌⊎◌, inl, inr, ⊎_elim, subst, Contains, Some}
use Rattle.std.proofs.Common.{slice_get}
use Rattle.std.specs.declared.cmp.Ordering.{Ordering}
use Rattle.std.specs.declared.cmp.Ordering.TheVariants.{Less, Equal, Greater}
use Rattle.std.specs.Ordering.{nat_cmp, match_ordering}
use Rattle.std.specs.BTreeSet.{insert_key}
use Rattle.std.proofs.lemmas.Map.Lookups.{exact_unsigned}
use Rattle.std.proofs.lemmas.Option.{slice_get_within, get_or_from_slice_get}
use Rattle.conflict_analysis.specs.Marked.{Inserts}
use Rattle.lit_core.proofs.LiteralFacts.{Contains-cons_cases, Contains-head, Contains-tail, nothing_in_none}

pub inserted-old : (ks : List ℕ) (p k : ℕ) → Contains ks k → Contains (insert_key nat_cmp ks p) k
inserted-old [] p k h = absurd (nothing_in_none k h)
inserted-old (x ∷ xs) p k h =
    elim (nat_cmp p x) as (λ o. Contains (match_ordering o (p ∷ x ∷ xs) (x ∷ xs) (x ∷ insert_key nat_cmp xs p)) k) [
      | Less ↦ Contains-tail p (x ∷ xs) k h
      | Equal ↦ h
      | Greater ↦ ⊎_elim
          (λ e. subst (Contains (x ∷ insert_key nat_cmp xs p)) e (Contains-head x (insert_key nat_cmp xs p)))
          (λ r. Contains-tail x (insert_key nat_cmp xs p) k (inserted-old xs p k r))
          (Contains-cons_cases x xs k h)
    ]

pub inserted-new : (ks : List ℕ) (p : ℕ) → Contains (insert_key nat_cmp ks p) p
inserted-new [] p = Contains-head p []
inserted-new (x ∷ xs) p = by_order (nat_cmp p x) refl (inserted-new xs p)
  where
    by_order : (o : Ordering) → nat_cmp p x ≡ o → Contains (insert_key nat_cmp xs p) p
        → Contains (match_ordering o (p ∷ x ∷ xs) (x ∷ xs) (x ∷ insert_key nat_cmp xs p)) p
    by_order Less e r = Contains-head p (x ∷ xs)
    by_order Equal e r = subst (Contains (x ∷ xs)) (sym (exact_unsigned p x e)) (Contains-head x xs)
    by_order Greater e r = Contains-tail x (insert_key nat_cmp xs p) p r

pub inserted-cases : (ks : List ℕ) (p k : ℕ) → Contains (insert_key nat_cmp ks p) k → Contains ks k ⊎ (p ≡ k)
inserted-cases [] p k h = ⊎_elim (λ e. inr e) (λ n. absurd (nothing_in_none k n)) (Contains-cons_cases p [] k h)
inserted-cases (x ∷ xs) p k h =
    (elim (nat_cmp p x) as (λ o. Contains (match_ordering o (p ∷ x ∷ xs) (x ∷ xs) (x ∷ insert_key nat_cmp xs p)) k
    → Contains (x ∷ xs) k ⊎ (p ≡ k)) [
      | Less ↦ λ g. ⊎_elim (λ e. inr e) (λ r. inl r) (Contains-cons_cases p (x ∷ xs) k g)
      | Equal ↦ λ g. inl g
      | Greater ↦ λ g. ⊎_elim
          (λ e. inl (subst (Contains (x ∷ xs)) e (Contains-head x xs)))
          (λ r. ⊎_elim (λ o. inl (Contains-tail x xs k o)) (λ e. inr e) (inserted-cases xs p k r))
          (Contains-cons_cases x (insert_key nat_cmp xs p) k g)
    ]) h

pub number-at : (ks : List ℕ) (j k : ℕ) → slice_get ks j ≡ Some k → Contains ks k
number-at ks j k h = (j, slice_get_within ks j k h, get_or_from_slice_get ks j k k h)

-- a set that is not empty has a number
pub some-number : (ks : List ℕ) → (ks ≡ [] → ⊥) → (k : ℕ) × Contains ks k
some-number [] h = absurd (h refl)
some-number (x ∷ xs) h = (x, Contains-head x xs)

-- the key is added
pub inserts-by : (ks more : List ℕ) (p : ℕ) → more ≡ insert_key nat_cmp ks p → Inserts ks p more
inserts-by ks more p e = subst (Inserts ks p) (sym e) (record {
  kept = λ k h. inserted-old ks p k h;
  has = inserted-new ks p;
  from = λ k h. inserted-cases ks p k h;
})
