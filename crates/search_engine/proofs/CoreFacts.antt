-- Cores.
use Rattle.std.proofs.Common.{◌≡◌, List, [], ◌∷◌, ◌++◌, refl, sym, subst, inl, inr, ⊎_elim, Contains}
use Rattle.std.proofs.lemmas.List.Elements.{Contains-push_cases, Contains-push, Contains-append_left}
use Rattle.lit_core.specs.declared.literals.Lit.{Lit}
use Rattle.lit_core.proofs.LiteralFacts.{nothing_in_none}
use Rattle.ground_core.specs.Solving.{IsSublist}
use Rattle.search_engine.specs.declared.lit_sets.LitSet.{LitSet}
use Rattle.search_engine.specs.LitSets.{HasLit}
use Rattle.search_engine.specs.Cores.{IsCoreOf}

pub sublist-both : (xs ys : List Lit) (y : Lit) → IsSublist xs ys → IsSublist (xs ++ y ∷ []) (ys ++ y ∷ [])
sublist-both [] [] y s = inl (refl, tt)
sublist-both [] (z ∷ ys) y s = inr (sublist-both [] ys y tt)
sublist-both (x ∷ xs) [] y s = absurd s
sublist-both (x ∷ xs) (z ∷ ys) y s = ⊎_elim (λ (h : (x ≡ z) × IsSublist xs ys). inl (h.0, sublist-both xs ys y h.1))
    (λ (m : IsSublist (x ∷ xs) ys). inr (sublist-both (x ∷ xs) ys y m)) s

pub sublist-longer : (xs ys : List Lit) (y : Lit) → IsSublist xs ys → IsSublist xs (ys ++ y ∷ [])
sublist-longer [] ys y s = tt
sublist-longer (x ∷ xs) [] y s = absurd s
sublist-longer (x ∷ xs) (z ∷ ys) y s = ⊎_elim (λ (h : (x ≡ z) × IsSublist xs ys). inl (h.0, sublist-longer xs ys y h.1))
    (λ (m : IsSublist (x ∷ xs) ys). inr (sublist-longer (x ∷ xs) ys y m)) s

pub core-none : (blamed : LitSet) → IsCoreOf [] blamed []
core-none blamed = record { sublist = tt; covers = λ l has why. has; from = λ l has. absurd (nothing_in_none l has) }

pub core-taken : (assume : List Lit) (blamed : LitSet) (core : List Lit) (a : Lit) → IsCoreOf assume blamed core
    → HasLit blamed a → IsCoreOf (assume ++ a ∷ []) blamed (core ++ a ∷ [])
core-taken assume blamed core a h is = record {
  sublist = sublist-both core assume a h.sublist;
  covers = λ l has why. ⊎_elim
      (λ o. Contains-append_left core (a ∷ []) l (h.covers l o why))
      (λ (e : a ≡ l). subst (Contains (core ++ a ∷ [])) e (Contains-push core a))
      (Contains-push_cases assume a l has);
  from = λ l has. ⊎_elim (λ o. h.from l o) (λ (e : a ≡ l). subst (HasLit blamed) e is)
      (Contains-push_cases core a l has);
}

pub core-left : (assume : List Lit) (blamed : LitSet) (core : List Lit) (a : Lit) → IsCoreOf assume blamed core
    → (HasLit blamed a → ⊥) → IsCoreOf (assume ++ a ∷ []) blamed core
core-left assume blamed core a h other = record {
  sublist = sublist-longer core assume a h.sublist;
  covers = λ l has why. ⊎_elim
      (λ o. h.covers l o why)
      (λ (e : a ≡ l). absurd (other (subst (HasLit blamed) (sym e) why)))
      (Contains-push_cases assume a l has);
  from = h.from;
}
