-- What is known of the data is known of what they are narrowed to.
use Rattle.std.proofs.Common.{◌≡◌, ℕ, zero, suc, List, [], ◌∷◌, map, Bool, true, false, Option, None, Some, unwrap_or}
use Rattle.std.proofs.Common.{slice_get, if◌then◌else◌, inl, inr, refl, sym, ap, subst, ◌∙◌}
use Rattle.std.specs.List.{Contains, list_any}
use Rattle.std.proofs.lemmas.Bool.{cases_Bool}
use Rattle.kb_logic.specs.declared.elements.Elem.{Elem}
use Rattle.kb_logic.specs.declared.structures.Structure.{Structure}
use Rattle.kb_logic.specs.declared.vocabularies.Vocabulary.{Vocabulary}
use Rattle.kb_logic.specs.KnownAtoms.{KnownAtoms, ExtendsData, atoms_over}
use Rattle.kb_logic.specs.Models.{GroundAtom, AtomHolds}
use Rattle.kb_logic.proofs.Members.{all_in, in_all, some_one, one_is_some}
use Rattle.partial_structures.specs.Consistency.{IsConsistent, KnowsMore}
use Rattle.partial_structures.specs.KnownAtoms.{same_atom, value_at}
use Rattle.partial_structures.specs.declared.truths.Truth.{Truth}
use Rattle.partial_structures.specs.declared.truths.Truth.TheVariants.{Yes, No, Unknown}
use Rattle.partial_structures.proofs.Sames.{atom_is, atom_itself}
use Rattle.bound_laws.proofs.Facts.{is_true, is_false}
use Rattle.term_values.specs.GroundBases.{GroundBase, known_of, structure_of}
use Rattle.term_values.specs.KnownBases.{known_truth, base_of_data}

yes_first : (t f : Bool) → t ≡ true → (if t then Yes else (if f then No else Unknown)) ≡ Yes
yes_first true f h = refl
yes_first false f h = absurd (cc)

no_second : (t f : Bool) → t ≡ false → f ≡ true → (if t then Yes else (if f then No else Unknown)) ≡ No
no_second true f h i = absurd (cc)
no_second false true h i = refl
no_second false false h i = absurd (cc)

yes_at : (k : KnownAtoms) (a : GroundAtom) → Contains k.true_atoms a → value_at k a ≡ Yes
yes_at k a at =
    yes_first (list_any (same_atom a) k.true_atoms) (list_any (same_atom a) k.false_atoms)
    (one_is_some (same_atom a) k.true_atoms a at (atom_itself a))

not_true : (k : KnownAtoms) → IsConsistent k → (a : GroundAtom) → Contains k.false_atoms a
    → list_any (same_atom a) k.true_atoms ≡ false
not_true k whole a at = elim (cases_Bool (list_any (same_atom a) k.true_atoms)) [
  | inl h ↦ let x = some_one (same_atom a) k.true_atoms h in
      absurd (whole.apart a (subst (Contains k.true_atoms) (atom_is a x.0 x.2) x.1) at)
  | inr h ↦ h
]

no_at : (k : KnownAtoms) → IsConsistent k → (a : GroundAtom) → Contains k.false_atoms a → value_at k a ≡ No
no_at k whole a at =
    no_second (list_any (same_atom a) k.true_atoms) (list_any (same_atom a) k.false_atoms) (not_true k whole a at)
    (one_is_some (same_atom a) k.false_atoms a at (atom_itself a))

module _ (k j : KnownAtoms) (whole : IsConsistent j) (more : KnowsMore k j) where
  by_truth : (a : GroundAtom) (x : Bool) (t : Truth) → value_at k a ≡ t → known_truth t ≡ Some x
      → known_truth (value_at j a) ≡ Some x
  by_truth a x Yes e h = ap known_truth (yes_at j a (more.true_atoms a (is_true k a e))) ∙ h
  by_truth a x No e h = ap known_truth (no_at j whole a (more.false_atoms a (is_false k a e))) ∙ h
  by_truth a x Unknown e h = absurd (cc)

  in_list : (atoms : List GroundAtom) (i : ℕ) (x : Bool)
      → unwrap_or (slice_get (map (λ a. known_truth (value_at k a)) atoms) i) None ≡ Some x
      → unwrap_or (slice_get (map (λ a. known_truth (value_at j a)) atoms) i) None ≡ Some x
  in_list [] i x h = h
  in_list (a ∷ atoms) zero x h = by_truth a x (value_at k a) refl h
  in_list (a ∷ atoms) (suc i) x h = in_list atoms i x h

  -- so are the known atoms of the ground problems
  pub facts_stay : (v : Vocabulary) (n : ℕ) (x : Bool) → known_of (base_of_data v k) n ≡ Some x
      → known_of (base_of_data v j) n ≡ Some x
  facts_stay v zero x h = h
  facts_stay v (suc i) x h =
      subst (λ (ds : List (List Elem)). unwrap_or (slice_get (map (λ a. known_truth (value_at j a))
      (atoms_over v.symbols ds)) i) None ≡ Some x) (sym more.domains) (in_list (atoms_over v.symbols k.domains) i x h)

  -- and what extends the one extends the other
  pub extends_less : (m : Structure) → ExtendsData m j → ExtendsData m k
  extends_less m e = record {
    domains = e.domains ∙ more.domains;
    true_atoms = in_all (AtomHolds m) k.true_atoms
        (λ a at. all_in (AtomHolds m) j.true_atoms e.true_atoms a (more.true_atoms a at));
    false_atoms = in_all (λ a. AtomHolds m a → ⊥) k.false_atoms
        (λ a at. all_in (λ b. AtomHolds m b → ⊥) j.false_atoms e.false_atoms a (more.false_atoms a at));
  }

  -- the structure of a valuation is the same over both
  pub same_structure : (v : Vocabulary) (w : ℕ → Bool)
      → structure_of (base_of_data v j) w ≡ structure_of (base_of_data v k) w
  same_structure v w =
      ap (λ (ds : List (List Elem)). structure_of (record { vocabulary = v; domains = ds; known = [] }) w) more.domains
