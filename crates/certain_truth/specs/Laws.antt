-- What the definitions say, in the subject's own words.
use Rattle.std.specs.Prelude.{◌≡◌, ◌↔◌, ℕ, List, ◌++◌, Some, Contains, IsTrue, IsFalse}
use Rattle.std.specs.List.{AllByRecursion}
use Rattle.kb_logic.specs.declared.elements.Elem.{Elem}
use Rattle.kb_logic.specs.declared.vocabularies.Bound.{Bound}
use Rattle.kb_logic.specs.declared.vocabularies.Vocabulary.{Vocabulary}
use Rattle.kb_logic.specs.declared.structures.Structure.{Structure}
use Rattle.kb_logic.specs.Trees.{TermTree, FormulaTree, universal, existential}
use Rattle.kb_logic.specs.Denotations.{Denotation, denotation_of}
use Rattle.kb_logic.specs.Meaning.{value_of, truth_of}
use Rattle.kb_logic.specs.Structures.{choices, domain_at, IsStructure}
use Rattle.kb_logic.specs.Domains.{AreDomainsOf}
use Rattle.kb_logic.specs.Typing.{IsTypedOver, TermIsTypedOver, element_of, sort_of}
use Rattle.kb_logic.specs.KnownAtoms.{known_of}
use Rattle.partial_structures.specs.KnownAtoms.{KnownAtoms, IsAtomOver}
use Rattle.partial_structures.specs.Extension.{ExtendsData, IsStructureOver}
use Rattle.kb_logic.specs.Bounds.{HasTypes, IsBounded, TermIsBounded}
use Rattle.certain_truth.specs.Certainty.{truth_if, known_value, certain_truth}
use Rattle.partial_structures.specs.Consistency.{IsConsistent, KnowsMore, KnowsAll}
use Rattle.certain_truth.specs.WellApplied.{AppliesWell, IsWellApplied}
use Rattle.certain_truth.specs.KnownArithmetic.{CertaintyFits, ValueFits}
use Rattle.partial_structures.specs.declared.truths.Truth.TheVariants as truth

-- a universal formula is certainly true where each instance is, and certainly false where some instance is
abbrev pub EveryIsConjunction : Type 0
EveryIsConjunction =
    (k : KnownAtoms) (bs : List Bound) (f : FormulaTree) (e : List Elem)
    → (certain_truth k (universal bs f) e ≡ truth.Yes ↔ ((a : List Elem) → Contains (choices k.domains bs) a
    → certain_truth k f (e ++ a) ≡ truth.Yes))
    × (certain_truth k (universal bs f) e ≡ truth.No ↔ ((a : List Elem) × Contains (choices k.domains bs) a
    × (certain_truth k f (e ++ a) ≡ truth.No)))

-- an existential formula is certainly true where some instance is, and certainly false where each instance is
abbrev pub SomeIsDisjunction : Type 0
SomeIsDisjunction =
    (k : KnownAtoms) (bs : List Bound) (f : FormulaTree) (e : List Elem)
    → (certain_truth k (existential bs f) e ≡ truth.Yes ↔ ((a : List Elem) × Contains (choices k.domains bs) a
    × (certain_truth k f (e ++ a) ≡ truth.Yes)))
    × (certain_truth k (existential bs f) e ≡ truth.No ↔ ((a : List Elem) → Contains (choices k.domains bs) a
    → certain_truth k f (e ++ a) ≡ truth.No))

-- what is certain of a formula is so in every structure that extends the data, and a known value is the value there
abbrev pub CertaintyIsSound : Type 0
CertaintyIsSound =
    (m : Structure) (k : KnownAtoms) → IsStructureOver k.symbols m → ExtendsData m k
    → ((f : FormulaTree) (e : List Elem) → (certain_truth k f e ≡ truth.Yes → IsTrue (truth_of m f e))
    × (certain_truth k f e ≡ truth.No → IsFalse (truth_of m f e)))
    × ((t : TermTree) (e : List Elem) (v : Denotation) → known_value k t e ≡ Some v → value_of m t e ≡ v)

-- what is certain of a formula stays so where more is known, and so does a known value
abbrev pub CertaintyIsMonotone : Type 0
CertaintyIsMonotone =
    (k j : KnownAtoms) → IsConsistent j → KnowsMore k j
    → ((f : FormulaTree) (e : List Elem) → (certain_truth k f e ≡ truth.Yes → certain_truth j f e ≡ truth.Yes)
    × (certain_truth k f e ≡ truth.No → certain_truth j f e ≡ truth.No))
    × ((t : TermTree) (e : List Elem) (v : Denotation) → known_value k t e ≡ Some v → known_value j t e ≡ Some v)

-- where no atom is unknown, what is certain is the truth in a structure that extends the data, and each value is known
abbrev pub CertaintyIsTruth : Type 0
CertaintyIsTruth =
    (m : Structure) (k : KnownAtoms) → IsStructureOver k.symbols m → ExtendsData m k → KnowsAll k
    → ((f : FormulaTree) (e : List Elem) → IsWellApplied k.symbols m f e → certain_truth k f e
    ≡ truth_if (truth_of m f e))
    × ((t : TermTree) (e : List Elem) → AppliesWell k.symbols m t e → known_value k t e ≡ Some (value_of m t e))

-- a formula whose terms have small static bounds meets the condition of `kleene`, under elements of the variables in
-- scope
abbrev pub SmallBoundsFit : Type 0
SmallBoundsFit =
    (v : Vocabulary) (k : KnownAtoms) → v.symbols ≡ k.symbols → IsConsistent k → (f : FormulaTree) (scope : List ℕ)
    (e : List Elem) → HasTypes k.domains scope e
    → IsBounded v k.domains f scope → CertaintyFits k f e

-- and so does a term
abbrev pub SmallTermsFit : Type 0
SmallTermsFit =
    (v : Vocabulary) (k : KnownAtoms) → v.symbols ≡ k.symbols → IsConsistent k → (t : TermTree) (scope : List ℕ)
    (e : List Elem) → HasTypes k.domains scope e
    → TermIsBounded v k.domains t scope → ValueFits k t e

-- a structure, as what makes every atom known, is consistent, leaves no atom unknown and extends itself
abbrev pub StructuresKnowAll : Type 0
StructuresKnowAll =
    (v : Vocabulary) (m : Structure) → IsStructure v m
    → KnowsAll (known_of v.symbols m) × IsConsistent (known_of v.symbols m) × ExtendsData m (known_of v.symbols m)

-- it extends what is known exactly where it knows more
abbrev pub ExtendsIsKnowsMore : Type 0
ExtendsIsKnowsMore =
    (v : Vocabulary) (m : Structure) → IsStructure v m → (k : KnownAtoms) → k.symbols ≡ v.symbols
    → AllByRecursion (IsAtomOver k.symbols k.domains) k.false_atoms
    → ExtendsData m k ↔ KnowsMore k (known_of v.symbols m)

-- over domains as the vocabulary asks for them, what is well typed applies each function within its types, and a term
-- of a type has an element of the type as its value
abbrev pub TypedIsWellApplied : Type 0
TypedIsWellApplied =
    (v : Vocabulary) (m : Structure) → IsStructure v m → AreDomainsOf v m.domains
    → (scope : List ℕ) (e : List Elem) → HasTypes m.domains scope e
    → ((f : FormulaTree) → IsTypedOver v m.domains f scope → IsWellApplied v.symbols m f e)
    × ((t : TermTree) → TermIsTypedOver v m.domains t scope → AppliesWell v.symbols m t e)
    × ((t : TermTree) (ty : ℕ) → TermIsTypedOver v m.domains t scope → sort_of v t scope ≡ Some (element_of ty)
    → (x : Elem) × Contains (domain_at m.domains ty) x × (value_of m t e ≡ denotation_of x))
