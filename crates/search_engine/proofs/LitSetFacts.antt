-- Sets of literals.
use Rattle.std.proofs.Common.{◌≡◌, ℕ, ◌+◌, ◌<◌, length, get_or, arith, Bool, true, false, List, [], ◌∷◌, ◌++◌, ap}
use Rattle.std.proofs.Common.{subst, sym, ◌∙◌, ◌⊎◌, inl, inr, ⊎_elim, Contains}
use Rattle.std.proofs.lemmas.Bool.{cases_eq}
use Rattle.std.proofs.lemmas.Option.{slice_get-get_or, get_or_from_slice_get}
use Rattle.std.specs.BTreeSet.{insert_key}
use Rattle.std.specs.Ordering.{nat_cmp}
use Rattle.std.proofs.lemmas.List.Elements.{Contains-push_cases, Contains-push, Contains-append_left}
use Rattle.lit_core.specs.declared.literals.Lit.{Lit}
use Rattle.lit_core.proofs.LiteralFacts.{same_literal, nothing_in_none}
use Rattle.conflict_analysis.proofs.Keys.{inserted-old, inserted-new, inserted-cases}
use Rattle.search_engine.specs.declared.lit_sets.LitSet.{LitSet}
use Rattle.search_engine.specs.LitSets.{numbers_of, HasLit, IsEmptySet, IsSetOf}

-- one more literal was put in
pub record Inserts (old new : LitSet) (lit : Lit) : Type 0 where
  pub here : numbers_of new lit.positive ≡ insert_key nat_cmp (numbers_of old lit.positive) lit.var.0
  pub there : (b : Bool) → (b ≡ lit.positive) ⊎ (numbers_of new b ≡ numbers_of old b)

pub inserts-positive : (old new : LitSet) (lit : Lit) → lit.positive ≡ true
    → new.positive.keys ≡ insert_key nat_cmp old.positive.keys lit.var.0 → new.negative.keys ≡ old.negative.keys
    → Inserts old new lit
inserts-positive old new lit sign keys same = record {
  here = rw sign keys;
  there = λ b. elim b as (λ b. (b ≡ lit.positive) ⊎ (numbers_of new b ≡ numbers_of old b)) [
    | true ↦ inl (sym sign)
    | false ↦ inr same
  ];
}

pub inserts-negative : (old new : LitSet) (lit : Lit) → lit.positive ≡ false
    → new.negative.keys ≡ insert_key nat_cmp old.negative.keys lit.var.0 → new.positive.keys ≡ old.positive.keys
    → Inserts old new lit
inserts-negative old new lit sign keys same = record {
  here = rw sign keys;
  there = λ b. elim b as (λ b. (b ≡ lit.positive) ⊎ (numbers_of new b ≡ numbers_of old b)) [
    | true ↦ inr same
    | false ↦ inl (sym sign)
  ];
}

module _ (old new : LitSet) (lit : Lit) (h : Inserts old new lit) where
  pub inserts-kept : (l : Lit) → HasLit old l → HasLit new l
  inserts-kept l has = ⊎_elim
      (λ e. subst (λ (ks : List ℕ). Contains ks l.var.0) (sym (ap (numbers_of new) e ∙ h.here))
      (inserted-old (numbers_of old lit.positive) lit.var.0 l.var.0
      (subst (λ (b : Bool). Contains (numbers_of old b) l.var.0) e has)))
      (λ same. subst (λ (ks : List ℕ). Contains ks l.var.0) (sym same) has)
      (h.there l.positive)

  pub inserts-new : HasLit new lit
  inserts-new = subst (λ (ks : List ℕ). Contains ks lit.var.0) (sym h.here)
      (inserted-new (numbers_of old lit.positive) lit.var.0)

  pub inserts-from : (l : Lit) → HasLit new l → HasLit old l ⊎ (lit ≡ l)
  inserts-from l has = ⊎_elim
      (λ e. ⊎_elim
      (λ o. inl (subst (λ (b : Bool). Contains (numbers_of old b) l.var.0) (sym e) o))
      (λ n. inr (same_literal lit l n (sym e)))
      (inserted-cases (numbers_of old lit.positive) lit.var.0 l.var.0 (subst (λ (ks : List ℕ). Contains ks l.var.0)
      (ap (numbers_of new) e ∙ h.here) has)))
      (λ same. inl (subst (λ (ks : List ℕ). Contains ks l.var.0) same has))
      (h.there l.positive)

pub empty-set : (s : LitSet) → IsEmptySet s → IsSetOf [] s
empty-set s none l = (
  λ has. absurd (nothing_in_none l.var.0 (subst (λ (ks : List ℕ). Contains ks l.var.0) (empty l.positive) has)),
  λ has. absurd (nothing_in_none l has),
)
  where
    empty : (b : Bool) → numbers_of s b ≡ []
    empty true = none.positive
    empty false = none.negative

-- one more literal of the list
pub set-more : (lits : List Lit) (lit : Lit) (old new : LitSet) → IsSetOf lits old
    → ((l : Lit) → HasLit old l → HasLit new l) → HasLit new lit → ((l : Lit) → HasLit new l → HasLit old l ⊎ (lit ≡ l))
    → IsSetOf (lits ++ lit ∷ []) new
set-more lits lit old new h kept here from l = (
  λ has. ⊎_elim
      (λ o. Contains-append_left lits (lit ∷ []) l ((h l).0 o))
      (λ e. subst (Contains (lits ++ lit ∷ [])) e (Contains-push lits lit))
      (from l has),
  λ has. ⊎_elim
      (λ o. kept l ((h l).1 o))
      (λ e. subst (HasLit new) e here)
      (Contains-push_cases lits lit l has),
)

-- one more item has what those before it have
pub next-all : {X : Type 0} (P : X → Type 0) (xs : List X) (i : ℕ) (e : X) → i < length xs
    → ((k : ℕ) (d : X) → k < i → P (get_or xs k d)) → P (get_or xs i e) → (k : ℕ) (d : X) → k < i + 1
    → P (get_or xs k d)
next-all P xs i e lt before here k d less = ⊎_elim
    (λ is. subst P (sym (ap (λ n. get_or xs n d) is ∙ get_or_from_slice_get xs i (get_or xs i e) d
    (slice_get-get_or xs i e lt))) here)
    (λ not. before k d (omega (arith, less, not)))
    (cases_eq k i)
