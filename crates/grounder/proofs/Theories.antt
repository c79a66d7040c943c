-- A theory's sentences, and its problem.
use Rattle.std.proofs.Common.{◌≡◌, List, [], ◌∷◌, ap, ◌∙◌}
use Rattle.std.specs.List.{AllByRecursion}
use Rattle.kb_logic.specs.Bounds.{TheoryIsBounded, TermIsBounded, RuleIsBounded}
use Rattle.kb_logic.specs.Bases.{Base, NamedTerm}
use Rattle.kb_logic.specs.Trees.{RuleTree, DefinitionTree, TheoryTree}
use Rattle.ground_core.specs.Problems.{ProblemState}
use Rattle.def_ground.specs.AskedTerms.{with_all_asked}
use Rattle.def_ground.specs.Definitions.{define_all}
use Rattle.def_ground.specs.Groundings.{ground_base, IsGroundNumber, IsGroundTheory}
use Rattle.def_ground.specs.Groundings.{theory_problem, TermsAreBounded}
use Rattle.def_ground.specs.Problems.{problem_of}
use Rattle.def_ground.specs.Rules.{IsTypedRule, IsTypedDefinition}
use Rattle.theory_laws.proofs.ProblemLaws.{all-ground}
use Rattle.term_walk.specs.Askable.{IsAskable}
use Rattle.ground_walk.specs.Groundable.{IsGroundable}
use Rattle.term_walk.proofs.AskableLaws.{bounded-askable}
use Rattle.ground_walk.proofs.GroundableLaws.{sentences-groundable}
use Rattle.definition_walk.specs.Steps.{CanBeGround}
use Rattle.definition_walk.proofs.Typed.{typed-can-be-ground}

-- the sentences of a theory that meets the conditions can be grounded
pub theory-groundable : (base : Base) → IsGroundTheory base
    → TheoryIsBounded base.vocabulary base.known.domains base.theory
    → AllByRecursion (λ f. IsGroundable (ground_base base) f []) base.theory.sentences
theory-groundable base typed bounded =
    sentences-groundable (ground_base base) base.theory.sentences
    (all-ground base typed base.theory.sentences typed.typed typed.placed) bounded.sentences

-- and so can its rules
pub rules-groundable : (base : Base) → IsGroundTheory base
    → TheoryIsBounded base.vocabulary base.known.domains base.theory
    → AllByRecursion (λ d. AllByRecursion (CanBeGround (ground_base base)) d.rules) base.theory.definitions
rules-groundable base typed bounded = all base.theory.definitions typed.definitions bounded.definitions
  where
    each : (rs : List RuleTree) → AllByRecursion (IsTypedRule base.vocabulary base.known.domains) rs
        → AllByRecursion (RuleIsBounded base.vocabulary base.known.domains) rs
        → AllByRecursion (CanBeGround (ground_base base)) rs
    each [] h k = tt
    each (r ∷ rs) h k = (typed-can-be-ground (ground_base base) r typed.known.domains h.0 k.0, each rs h.1 k.1)

    all : (ds : List DefinitionTree)
        → AllByRecursion (IsTypedDefinition base.vocabulary base.known.domains) ds
        → AllByRecursion (λ (d : DefinitionTree). AllByRecursion
        (RuleIsBounded base.vocabulary base.known.domains) d.rules) ds
        → AllByRecursion (λ (d : DefinitionTree). AllByRecursion (CanBeGround (ground_base base)) d.rules) ds
    all [] h k = tt
    all (d ∷ ds) h k = (each d.rules h.0 k.0, all ds h.1 k.1)

-- its terms can be made numbers and weighted literals
pub terms-askable : (base : Base) → IsGroundTheory base → TermsAreBounded base
    → AllByRecursion (λ t. IsAskable (ground_base base) t.term) base.terms
terms-askable base typed bounded = each base.terms typed.terms bounded
  where
    each : (ts : List NamedTerm) → AllByRecursion (IsGroundNumber base) ts
        → AllByRecursion (λ (t : NamedTerm). TermIsBounded base.vocabulary base.known.domains t.term []) ts
        → AllByRecursion (λ t. IsAskable (ground_base base) t.term) ts
    each [] h k = tt
    each (t ∷ ts) h k = (
      bounded-askable (ground_base base) typed.known.domains t.term h.0.typed h.0.placed k.0,
      each ts h.1 k.1,
    )

-- what is made of its sentences, definitions and terms is its problem
pub problem-value : (base : Base) (t : TheoryTree) (ts : List NamedTerm) → t ≡ base.theory → ts ≡ base.terms
    → (p : ProblemState)
    → p ≡ with_all_asked (ground_base base) ts
    (define_all (ground_base base) t.definitions (problem_of (ground_base base) t.sentences)) → p ≡ theory_problem base
problem-value base t ts same alike p made =
    made
    ∙ ap (λ us. with_all_asked (ground_base base) us
    (define_all (ground_base base) t.definitions (problem_of (ground_base base) t.sentences))) alike
    ∙ ap (λ (u : TheoryTree). with_all_asked (ground_base base) base.terms
    (define_all (ground_base base) u.definitions (problem_of (ground_base base) u.sentences))) same
