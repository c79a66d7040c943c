-- A list of atoms without repetition with one of them more.
use Rattle.std.proofs.Common.{◌≡◌, ℕ, suc, ◌+◌, List, [], ◌∷◌, length, Bool, true, false, ◌||◌, cond, refl, sym, ap}
use Rattle.std.proofs.Common.{◌∙◌, arith, inl, inr, filter, subst}
use Rattle.std.specs.List.{Contains}
use Rattle.std.proofs.lemmas.Bool.{cases_Bool}
use Rattle.kb_logic.specs.Structures.{IsDistinct}
use Rattle.kb_logic.specs.Models.{GroundAtom}
use Rattle.kb_logic.proofs.Has.{Has, contains_from, filter-same}
use Rattle.partial_structures.specs.KnownAtoms.{same_atom}
use Rattle.partial_structures.proofs.Sames.{atom_is, atom_itself}

module _ (Q : GroundAtom → Bool) (a : GroundAtom) where
  not_here : (xs : List GroundAtom) (b : GroundAtom) → Has xs b → (Contains xs a → ⊥) → same_atom a b ≡ false
  not_here xs b m none = elim (cases_Bool (same_atom a b)) [
    | inl e ↦ absurd
        (none (subst (Contains xs) (atom_is a b e) (contains_from xs b m)))
    | inr e ↦ e
  ]

  first_more : (b : Bool) (rest : ℕ) (xs : List GroundAtom) → Q a ≡ b → length (filter Q xs) ≡ rest
      → suc rest ≡ length (cond (Q a) (a ∷ filter Q xs) (filter Q xs)) + cond (Q a) 0 1
  first_more true rest xs e r = rw e (omega (arith, r))
  first_more false rest xs e r = rw e (omega (arith, r))

  later_more : (b c : Bool) (x : GroundAtom) (new old : List GroundAtom) (n : ℕ) → b ≡ c → length new ≡ length old + n
      → length (cond b (x ∷ new) new) ≡ length (cond c (x ∷ old) old) + n
  later_more true c x new old n e h = rw (sym e) (omega (arith, h))
  later_more false c x new old n e h = rw (sym e) (omega (arith, h))

  pub length_more : (xs : List GroundAtom) → IsDistinct xs → Has xs a → length (filter (λ b. same_atom a b || Q b) xs)
      ≡ length (filter Q xs) + cond (Q a) 0 1
  length_more [] d m = absurd m
  length_more (x ∷ xs) d (inl e) =
      let none : Contains xs a → ⊥ = subst (λ y. Contains xs y → ⊥) e d.0 in
      let rest : filter (λ b. same_atom a b || Q b) xs ≡ filter Q xs = filter-same (λ b. same_atom a b || Q b) Q xs
      (λ b m. ap (λ t. t || Q b) (not_here xs b m none)) in
      subst (λ y. length (filter (λ b. same_atom a b || Q b) (y ∷ xs)) ≡ length (filter Q (y ∷ xs)) + cond
      (Q a) 0 1) (sym e)
      (ap (λ t. length (cond (t || Q a) (a ∷ filter (λ b. same_atom a b || Q b) xs)
      (filter (λ b. same_atom a b || Q b) xs))) (atom_itself a)
      ∙ ap (λ l. suc (length l)) rest
      ∙ first_more (Q a) (length (filter Q xs)) xs refl refl)
  length_more (x ∷ xs) d (inr m) =
      let other : same_atom a x ≡ false = elim (cases_Bool (same_atom a x))
      [ inl e ↦ absurd (d.0 (subst (Contains xs) (sym (atom_is a x e)) (contains_from xs a m))) | inr e ↦ e ] in
      later_more (same_atom a x || Q x) (Q x) x (filter (λ b. same_atom a b || Q b) xs) (filter Q xs) (cond (Q a) 0 1)
      (ap (λ t. t || Q x) other) (length_more xs d.1 m)
