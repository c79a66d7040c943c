-- A ground problem of a knowledge base: each model is one valuation, and each valuation one model.
use Rattle.std.specs.Prelude.{◌∷◌, Some, Contains, ◌≡◌, ℕ, [], Bool, false, length, slice_get}
use Rattle.std.specs.List.{AllByRecursion}
use Rattle.kb_logic.specs.declared.structures.Structure.{Structure}
use Rattle.kb_logic.specs.Bounds.{TermIsBounded}
use Rattle.kb_logic.specs.Meaning.{value_of}
use Rattle.kb_logic.specs.Typing.{IsTypedOver, TermIsTypedOver, IsNumeric, sort_of}
use Rattle.kb_logic.specs.Bases.{Base, NamedTerm, IsModelUnder}
use Rattle.ground_core.specs.Problems.{ProblemState}
use Rattle.ground_core.specs.Meaning.{Satisfies}
use Rattle.ground_core.specs.Growing.{value_at}
use Rattle.ground_core.specs.More.{Agree}
use Rattle.ground_core.specs.Atoms.{ground_atoms}
use Rattle.term_values.specs.GroundBases.{GroundBase, known_of, structure_of}
use Rattle.term_values.specs.KnownBases.{base_of_data, AreDataOf}
use Rattle.def_ground.specs.AskedTerms.{with_all_asked}
use Rattle.def_ground.specs.Definitions.{define_all}
use Rattle.def_ground.specs.Problems.{fact_of, problem_of}
use Rattle.def_ground.specs.GroundForms.{IsPlaced, IsSide}
use Rattle.def_ground.specs.Rules.{IsTypedDefinition}

-- what is known of the ground atoms of a knowledge base
abbrev pub ground_base : Base → GroundBase
ground_base base = base_of_data base.vocabulary base.known

-- the term is well typed over the data's domains, a number, and its aggregates stand where they may
pub record IsGroundNumber (base : Base) (t : NamedTerm) : Type 0 where
  pub typed : TermIsTypedOver base.vocabulary base.known.domains t.term []
  pub numeric : IsNumeric base.vocabulary (sort_of base.vocabulary t.term [])
  pub placed : IsSide false t.term

-- the data are of the vocabulary, the theory is well typed sentences and definitions whose aggregates stand where they
-- may, and the terms that may be asked for are such numbers
pub record IsGroundTheory (base : Base) : Type 0 where
  pub known : AreDataOf base.vocabulary base.known
  pub typed : AllByRecursion (λ f. IsTypedOver base.vocabulary base.known.domains f []) base.theory.sentences
  pub placed : AllByRecursion IsPlaced base.theory.sentences
  pub definitions :
      AllByRecursion (IsTypedDefinition base.vocabulary base.known.domains) base.theory.definitions
  pub terms : AllByRecursion (IsGroundNumber base) base.terms

-- each model is the structure of a valuation that satisfies the problem, and of one alone; and the structure of each
-- such valuation is a model
pub record IsGroundingOf (base : Base) (p : ProblemState) : Type 0 where
  -- the ground atoms are the first variables, in the order of all atoms
  pub atoms : p.atoms ≡ ground_atoms base.vocabulary.symbols base.known.domains
  -- a known atom has a clause of its one literal
  pub facts : (n : ℕ) (x : Bool) → known_of (ground_base base) n ≡ Some x → Contains p.clauses (fact_of n x ∷ [])
  pub extends : (m : Structure) → IsModelUnder base [] m
      → (v : ℕ → Bool) × Satisfies p v × (structure_of (ground_base base) v ≡ m)
  pub unique :
      (v w : ℕ → Bool) → Satisfies p v → Satisfies p w
      → structure_of (ground_base base) v ≡ structure_of (ground_base base) w
      → Agree p.vars v w
  pub gives : (v : ℕ → Bool) → Satisfies p v → IsModelUnder base [] (structure_of (ground_base base) v)
  -- there is a term for each that may be asked for, in their order, and it has that one's value
  pub number : length p.terms ≡ length base.terms
  pub terms :
      (n : ℕ) (t : NamedTerm) → slice_get base.terms n ≡ Some t → (v : ℕ → Bool) → Satisfies p v
      → value_at p n v ≡ value_of (structure_of (ground_base base) v) t.term []

-- the problem of a theory over its data: its sentences, then its definitions, then the terms that may be asked for
abbrev pub theory_problem : Base → ProblemState
theory_problem base =
    let b = ground_base base in
    with_all_asked b base.terms (define_all b base.theory.definitions (problem_of b base.theory.sentences))

-- it says nothing of bounds, and no selector is retired
pub record HasNoBounds (p : ProblemState) : Type 0 where
  pub bounds : p.bounds ≡ []
  pub retired : p.retired ≡ []

-- the static bounds of each term that may be asked for are small
abbrev pub TermsAreBounded : Base → Type 0
TermsAreBounded base =
    AllByRecursion (λ (t : NamedTerm). TermIsBounded base.vocabulary base.known.domains t.term []) base.terms
