-- What is known holds where the data is extended.
use Rattle.std.proofs.Common.{◌≡◌, List, [], ◌∷◌, Bool, true, false, if◌then◌else◌, refl, sym, inl, inr, subst}
use Rattle.std.specs.List.{list_any, AllByRecursion}
use Rattle.std.proofs.lemmas.Bool.{or_cases, true≢false}
use Rattle.kb_logic.specs.Models.{GroundAtom}
use Rattle.partial_structures.specs.KnownAtoms.{same_atom}
use Rattle.partial_structures.specs.Laws.{KnownAtomsHold}
use Rattle.row_tries.specs.declared.truths.Truth.TheVariants.{Yes, No, Unknown}
use Rattle.partial_structures.proofs.Sames.{atom_is}

at_listed : (a : GroundAtom) (P : GroundAtom → Type 0) (xs : List GroundAtom) → list_any (same_atom a) xs ≡ true
    → AllByRecursion P xs → P a
at_listed a P [] h all = absurd (true≢false (sym h))
at_listed a P (x ∷ xs) h all = elim (or_cases (same_atom a x) (list_any (same_atom a) xs) h) [
  | inl e ↦ subst P (atom_is a x e) all.0
  | inr m ↦ at_listed a P xs m all.1
]

is_true : (t f : Bool) → (if t then Yes else (if f then No else Unknown)) ≡ Yes → t ≡ true
is_true true f h = refl
is_true false true h = absurd (cc)
is_true false false h = absurd (cc)

is_false : (t f : Bool) → (if t then Yes else (if f then No else Unknown)) ≡ No → f ≡ true
is_false true f h = absurd (cc)
is_false false true h = refl
is_false false false h = absurd (cc)

pub known_atoms_hold : KnownAtomsHold
known_atoms_hold m k a extends = (
  λ h. at_listed a _ k.true_atoms (is_true (list_any (same_atom a) k.true_atoms) (list_any (same_atom a) k.false_atoms)
      h) extends.true_atoms,
  λ h. at_listed a _ k.false_atoms (is_false (list_any (same_atom a) k.true_atoms)
      (list_any (same_atom a) k.false_atoms) h) extends.false_atoms,
)
