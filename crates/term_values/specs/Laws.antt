-- What the structure of a valuation is, and what rows promise.
use Rattle.std.specs.Prelude.{◌≡◌, ◌↔◌, ◌≤◌, ℕ, suc, List, [], ◌∷◌, length, Bool, true, Some, slice_get}
use Rattle.kb_logic.specs.declared.elements.Elem.{Elem}
use Rattle.kb_logic.specs.declared.structures.Structure.{Structure}
use Rattle.kb_logic.specs.declared.vocabularies.Vocabulary.{Vocabulary}
use Rattle.kb_logic.specs.Structures.{IsStructure}
use Rattle.kb_logic.specs.Bounds.{HasTypes}
use Rattle.kb_logic.specs.Weights.{application_count}
use Rattle.kb_logic.specs.Domains.{AreDomainsOf}
use Rattle.kb_logic.specs.Typing.{TermIsTypedOver}
use Rattle.kb_logic.specs.Trees.{TermTree}
use Rattle.kb_logic.specs.Meaning.{value_of}
use Rattle.kb_logic.specs.Models.{GroundAtom, AtomHolds}
use Rattle.kb_logic.specs.KnownAtoms.{KnownAtoms, ExtendsData, atoms_over}
use Rattle.term_values.specs.GroundBases.{GroundBase, structure_of, OneValueEach, HasKnown, IsOver}
use Rattle.term_values.specs.KnownBases.{IsGroundBase, base_of_data, AreDataOf}
use Rattle.term_values.specs.Rows.{rows_of_term, selected_values}
use Rattle.term_values.specs.GroundTerms.{IsGroundTerm}

-- exactly one row has true guards, and its value is the term's in the structure of the valuation
abbrev pub RowsAreRight : Type 0
RowsAreRight =
    (b : GroundBase) (v : ℕ → Bool) (t : TermTree) (e : List Elem) → IsOver b v → IsGroundTerm b t
    → selected_values v (rows_of_term b t e) ≡ value_of (structure_of b v) t e ∷ []

-- variables are numbered from 1 on in the order of all atoms: an atom is true in the structure exactly where its
-- variable is
abbrev pub AtomsHaveVariables : Type 0
AtomsHaveVariables =
    (b : GroundBase) (v : ℕ → Bool) (n : ℕ) (a : GroundAtom) → IsGroundBase b
    → slice_get (atoms_over b.vocabulary.symbols b.domains) n ≡ Some a
    → AtomHolds (structure_of b v) a ↔ v (suc n) ≡ true

-- the structure of a valuation that gives each function one value at each tuple is one over the vocabulary
abbrev pub ValuationsMakeStructures : Type 0
ValuationsMakeStructures =
    (b : GroundBase) (v : ℕ → Bool) → IsGroundBase b → OneValueEach b v → IsStructure b.vocabulary (structure_of b v)

-- and each structure over the vocabulary and the domains is that of such a valuation
abbrev pub StructuresHaveValuations : Type 0
StructuresHaveValuations =
    (b : GroundBase) (m : Structure) → IsGroundBase b → IsStructure b.vocabulary m → m.domains ≡ b.domains
    → (v : ℕ → Bool) × (structure_of b v ≡ m) × OneValueEach b v

-- valuations that agree on the variables of the atoms have one structure
abbrev pub OnlyAtomsMatter : Type 0
OnlyAtomsMatter =
    (b : GroundBase) (v w : ℕ → Bool) → IsGroundBase b
    → ((n : ℕ) → 1 ≤ n → n ≤ length (atoms_over b.vocabulary.symbols b.domains) → v n ≡ w n)
    → structure_of b v ≡ structure_of b w

-- a valuation has what the data make known exactly where its structure extends the data
abbrev pub KnownIsExtended : Type 0
KnownIsExtended =
    (v : Vocabulary) (k : KnownAtoms) (w : ℕ → Bool) → AreDataOf v k
    → HasKnown (base_of_data v k) w ↔ ExtendsData (structure_of (base_of_data v k) w) k

-- well typed terms have no more rows than their applications outside aggregates have values
abbrev pub RowsAreFew : Type 0
RowsAreFew =
    (b : GroundBase) (t : TermTree) (scope : List ℕ) (e : List Elem) → AreDomainsOf b.vocabulary b.domains
    → HasTypes b.domains scope e
    → TermIsTypedOver b.vocabulary b.domains t scope
    → length (rows_of_term b t e) ≤ application_count b.vocabulary b.domains t
