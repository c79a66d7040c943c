-- A valuation that has what the data make known is one of a structure that extends them.
use Rattle.std.proofs.Common.{◌≡◌, ℕ, zero, suc, List, Bool, true, false, Option, Some, None, option_map, unwrap_or}
use Rattle.std.proofs.Common.{slice_get, inl, inr}
use Rattle.std.proofs.Common.{if◌then◌else◌, refl, sym, ap, subst, ◌∙◌}
use Rattle.std.specs.List.{Contains, list_any}
use Rattle.std.proofs.lemmas.Bool.{cases_Bool, true≢false}
use Rattle.std.proofs.lemmas.Option.{slice_get-map}
use Rattle.kb_logic.specs.declared.vocabularies.Vocabulary.{Vocabulary}
use Rattle.kb_logic.specs.Models.{GroundAtom, AtomHolds, IsAtomOver}
use Rattle.kb_logic.specs.KnownAtoms.{KnownAtoms, ExtendsData, atoms_over}
use Rattle.kb_logic.proofs.AllAtoms.{atom_listed}
use Rattle.kb_logic.proofs.Members.{all_in, in_all, some_one, one_is_some}
use Rattle.partial_structures.specs.KnownAtoms.{value_at, same_atom}
use Rattle.partial_structures.specs.declared.truths.Truth.{Truth}
use Rattle.partial_structures.specs.declared.truths.Truth.TheVariants.{Yes, No, Unknown}
use Rattle.partial_structures.proofs.KnownHold.{known_atoms_hold}
use Rattle.partial_structures.proofs.Sames.{atom_is, atom_itself}
use Rattle.term_values.specs.GroundBases.{GroundBase, known_of, structure_of, HasKnown}
use Rattle.term_values.specs.KnownBases.{known_truth, base_of_data, AreDataOf, IsGroundBase}
use Rattle.term_values.proofs.Chosen.{has-index}
use Rattle.term_values.proofs.StructureAtoms.{atom-true}
use Rattle.term_values.proofs.TypedLaws.{domains-ground}

yes-first : (t f : Bool) → t ≡ true → (if t then Yes else (if f then No else Unknown)) ≡ Yes
yes-first true f h = refl
yes-first false f h = cc

no-second : (t f : Bool) → t ≡ false → f ≡ true → (if t then Yes else (if f then No else Unknown)) ≡ No
no-second true f h k = cc
no-second false true h k = refl
no-second false false h k = cc

module _ (voc : Vocabulary) (k : KnownAtoms) (given : AreDataOf voc k) (v : ℕ → Bool) where
  abbrev b : GroundBase
  b = base_of_data voc k

  abbrev atoms : List GroundAtom
  atoms = atoms_over voc.symbols k.domains

  pub ground-base : IsGroundBase (base_of_data voc k)
  ground-base = domains-ground (base_of_data voc k) given.domains

  at-atom : (n : ℕ) (a : GroundAtom) → slice_get atoms n ≡ Some a
      → known_of (base_of_data voc k) (suc n) ≡ known_truth (value_at k a)
  at-atom n a at =
      ap (λ o. unwrap_or o None) (slice_get-map (λ a. known_truth (value_at k a)) atoms n
      ∙ ap (option_map (λ a. known_truth (value_at k a))) at)

  index-of-atom : (a : GroundAtom) → IsAtomOver k.symbols k.domains a → (n : ℕ) × (slice_get atoms n ≡ Some a)
  index-of-atom a over =
      has-index atoms a (atom_listed voc.symbols k.domains a
      (subst (λ ss. IsAtomOver ss k.domains a) given.symbols over))

  yes-at : (a : GroundAtom) → Contains k.true_atoms a → value_at k a ≡ Yes
  yes-at a at =
      yes-first (list_any (same_atom a) k.true_atoms) (list_any (same_atom a) k.false_atoms)
      (one_is_some (same_atom a) k.true_atoms a at (atom_itself a))

  not-true : (a : GroundAtom) → Contains k.false_atoms a → list_any (same_atom a) k.true_atoms ≡ false
  not-true a at = elim (cases_Bool (list_any (same_atom a) k.true_atoms)) [
    | inl h ↦ let x = some_one (same_atom a) k.true_atoms h in
        absurd (given.consistent.apart a (subst (Contains k.true_atoms) (atom_is a x.0 x.2) x.1) at)
    | inr h ↦ h
  ]

  no-at : (a : GroundAtom) → Contains k.false_atoms a → value_at k a ≡ No
  no-at a at =
      no-second (list_any (same_atom a) k.true_atoms) (list_any (same_atom a) k.false_atoms) (not-true a at)
      (one_is_some (same_atom a) k.false_atoms a at (atom_itself a))

  pub known-extends : HasKnown (base_of_data voc k) v → ExtendsData (structure_of (base_of_data voc k) v) k
  known-extends h = record {
    domains = refl;
    true_atoms = in_all (AtomHolds (structure_of (base_of_data voc k) v)) k.true_atoms (λ a at.
        let n = index-of-atom a (all_in (IsAtomOver k.symbols k.domains) k.true_atoms given.consistent.over a at) in
        (atom-true (base_of_data voc k) ground-base v n.0 a n.1).1
        (h (suc n.0) true (at-atom n.0 a n.1 ∙ ap known_truth (yes-at a at))));
    false_atoms = in_all (λ a. AtomHolds (structure_of (base_of_data voc k) v) a → ⊥) k.false_atoms (λ a at holds.
        let n = index-of-atom a (all_in (IsAtomOver k.symbols k.domains) k.false_atoms given.false_over a at) in
        let yes = (atom-true (base_of_data voc k) ground-base v n.0 a n.1).0 holds in
        true≢false (sym yes ∙ h (suc n.0) false (at-atom n.0 a n.1 ∙ ap known_truth (no-at a at))));
  }

  by-truth : (extends : ExtendsData (structure_of (base_of_data voc k) v) k) (n : ℕ) (x : Bool) (a : GroundAtom)
      (t : Truth) → value_at k a ≡ t → slice_get atoms n ≡ Some a → known_truth t ≡ Some x → v (suc n) ≡ x
  by-truth extends n x a Yes e at h =
      let is : true ≡ x = cc in
      (atom-true (base_of_data voc k) ground-base v n a at).0
      ((known_atoms_hold (structure_of (base_of_data voc k) v) k a extends).0 e) ∙ is
  by-truth extends n x a No e at h =
      let is : false ≡ x = cc in
      elim (cases_Bool (v (suc n))) [
        | inl h1 ↦ absurd ((known_atoms_hold (structure_of (base_of_data voc k) v) k a extends).1 e
            ((atom-true (base_of_data voc k) ground-base v n a at).1 h1))
        | inr h2 ↦ h2 ∙ is
      ]
  by-truth extends n x a Unknown e at h = cc

  by-atom : (extends : ExtendsData (structure_of (base_of_data voc k) v) k) (n : ℕ) (x : Bool) (o : Option GroundAtom)
      → slice_get atoms n ≡ o
      → unwrap_or (option_map (λ a. known_truth (value_at k a)) o) None ≡ Some x → v (suc n) ≡ x
  by-atom extends n x None at h = cc
  by-atom extends n x (Some a) at h = by-truth extends n x a (value_at k a) refl at h

  pub extends-known : ExtendsData (structure_of (base_of_data voc k) v) k → HasKnown (base_of_data voc k) v
  extends-known extends zero x h = cc
  extends-known extends (suc n) x h =
      by-atom extends n x (slice_get atoms n) refl
      (sym (ap (λ o. unwrap_or o None) (slice_get-map (λ a. known_truth (value_at k a)) atoms n)) ∙ h)
