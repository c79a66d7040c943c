-- What narrowing promises.
use Rattle.std.specs.Prelude.{◌≡◌, ◌↔◌, List, [], ◌∷◌, ◌++◌, Bool, true, false, Contains}
use Rattle.std.specs.List.{AllByRecursion, list_all}
use Rattle.kb_logic.specs.declared.elements.Elem.{Elem}
use Rattle.kb_logic.specs.declared.structures.Structure.{Structure}
use Rattle.kb_logic.specs.declared.structures.Literal.{Literal}
use Rattle.kb_logic.specs.declared.vocabularies.Bound.{Bound}
use Rattle.kb_logic.specs.Trees.{FormulaTree, existential, DefinitionTree, TheoryTree}
use Rattle.kb_logic.specs.Structures.{choices}
use Rattle.kb_logic.specs.Domains.{AreDomainsOf}
use Rattle.kb_logic.specs.Typing.{IsTypedOver}
use Rattle.kb_logic.specs.Bases.{Base, IsModelUnder}
use Rattle.kb_logic.specs.KnownAtoms.{known_of, ExtendsData}
use Rattle.kb_logic.specs.Models.{GroundAtom, IsAtomOver}
use Rattle.partial_structures.specs.KnownAtoms.{KnownAtoms, value_at, with_true, with_false}
use Rattle.partial_structures.specs.declared.truths.Truth.TheVariants as truth
use Rattle.partial_structures.specs.Consistency.{IsConsistent, IsListed, KnowsMore}
use Rattle.certain_truth.specs.Certainty.{truth_if, certain_truth}
use Rattle.bound_laws.specs.Heads.{HasPlainHead}
use Rattle.bound_laws.specs.Closures.{Obeys, IsClosed, IsNarrowed, IsContradictory, opposes}

-- what is certainly v adds nothing where it must be v
abbrev pub CertainAddsNothing : Type 0
CertainAddsNothing =
    (k : KnownAtoms) → IsConsistent k → IsListed k → (f : FormulaTree) (e : List Elem) (v : Bool)
    → certain_truth k f e ≡ truth_if v → Obeys k v f e

-- what must be of a value, and obeys, is not certainly of the other: so no occurrence obeys that must be of one value
-- and is certainly of the other
abbrev pub ObeysIsNotLost : Type 0
ObeysIsNotLost = (k : KnownAtoms) (v : Bool) (f : FormulaTree) (e : List Elem) → Obeys k v f e
    → opposes v (certain_truth k f e) ≡ false

-- an existential formula that must be true obeys exactly where some instance is not certainly false, and an instance
-- obeys where all others are certainly false
abbrev pub LastInstanceObeys : Type 0
LastInstanceObeys =
    (k : KnownAtoms) (bs : List Bound) (f : FormulaTree) (e : List Elem)
    → Obeys k true (existential bs f) e ↔ (((a : List Elem) × Contains (choices k.domains bs) a
    × (opposes true (certain_truth k f (e ++ a)) ≡ false))
    × ((before after : List (List Elem)) (a : List Elem) → choices k.domains bs ≡ before ++ a ∷ after
    → list_all (λ b. opposes true (certain_truth k f (e ++ b))) before ≡ true
    → list_all (λ b. opposes true (certain_truth k f (e ++ b))) after ≡ true → Obeys k true f (e ++ a)))

-- a fact that is known of q keeps within q what is known of less
abbrev pub FactsStayWithin : Type 0
FactsStayWithin =
    (k q : KnownAtoms) (a : GroundAtom) → IsListed q → KnowsMore k q
    → (value_at q a ≡ truth.Yes → KnowsMore (with_true k a) q)
    × (value_at q a ≡ truth.No → KnowsMore (with_false k a) q)

-- there is at most one narrowed structure
abbrev pub OneNarrowed : Type 0
OneNarrowed = (t : TheoryTree) (s k j : KnownAtoms) → IsNarrowed t s k → IsNarrowed t s j → k ≡ j

-- the data and the theory are of the vocabulary, the sentences are well typed, and the heads of rules are plain
pub record IsTypedBase (base : Base) : Type 0 where
  pub symbols : base.known.symbols ≡ base.vocabulary.symbols
  pub domains : AreDomainsOf base.vocabulary base.known.domains
  pub false_over : AllByRecursion (IsAtomOver base.known.symbols base.known.domains) base.known.false_atoms
  pub sentences : AllByRecursion (λ f. IsTypedOver base.vocabulary base.known.domains f []) base.theory.sentences
  pub heads : AllByRecursion (λ (d : DefinitionTree). AllByRecursion HasPlainHead d.rules) base.theory.definitions

-- a model, as what makes every atom known, is closed
abbrev pub ModelsAreClosed : Type 0
ModelsAreClosed =
    (base : Base) → IsTypedBase base → (choices : List Literal) (m : Structure) → IsModelUnder base choices m
    → IsClosed base.theory base.known (known_of base.vocabulary.symbols m)

-- every model extends what the data are narrowed to; and where narrowing meets a contradiction, there is no model
abbrev pub NarrowedKeepsModels : Type 0
NarrowedKeepsModels =
    (base : Base) → IsTypedBase base → (choices : List Literal) (m : Structure) → IsModelUnder base choices m
    → ((k : KnownAtoms) → IsNarrowed base.theory base.known k → ExtendsData m k)
    × (IsContradictory base.theory base.known → ⊥)
