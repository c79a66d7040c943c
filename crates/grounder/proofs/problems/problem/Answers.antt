use Rattle.std.proofs.Common.{true, [], map, sym, subst}
use Rattle.std.specs.List.{AllByRecursion}
use Rattle.kb_logic.specs.Views.{formula_view, definition_view}
use Rattle.term_values.specs.GroundBases.{GroundBase}
use Rattle.term_values.specs.KnownBases.{IsGroundBase, base_of_data}
use Rattle.term_values.proofs.KnownLaws.{ground-base}
use Rattle.stage_definitions.specs.FileBases.{named_term}
use Rattle.type_derivation.specs.TypedViews.{named_term_view}
use Rattle.term_walk.specs.Askable.{IsAskable}
use Rattle.ground_walk.specs.Groundable.{IsGroundable, KnowsAtoms}
use Rattle.ground_walk.proofs.GroundableLaws.{knows-atoms}
use Rattle.definition_walk.specs.Steps.{CanBeGround}
use Rattle.grounder.proofs.problems.problem.Goals as goal

pub problem_of-requires-clause-given : goal.problem_of-requires-clause-given
problem_of-requires-clause-given c =
    subst (λ (b : GroundBase). IsGroundBase b) (sym c.in_ok-base.ensures)
    (ground-base c.args.vocabulary.now c.args.known.now c.requires.known (λ k. true))

pub problem_of-requires-clause-known : goal.problem_of-requires-clause-known
problem_of-requires-clause-known c =
    subst (λ (b : GroundBase). KnowsAtoms b) (sym c.in_ok-base.ensures)
    (knows-atoms c.args.vocabulary.now c.args.known.now)

pub problem_of-requires-clause-fits : goal.problem_of-requires-clause-fits
problem_of-requires-clause-fits c =
    subst (λ (b : GroundBase). AllByRecursion (λ f. IsGroundable b f [])
    (map formula_view c.as_slice.result.now)) (sym c.in_ok-base.ensures)
    (subst (λ fs. AllByRecursion (λ f. IsGroundable (base_of_data c.args.vocabulary.now c.args.known.now) f [])
    (map formula_view fs)) (sym c.as_slice.ensures) c.requires.fits)

pub push_definitions-requires-clause-given : goal.push_definitions-requires-clause-given
push_definitions-requires-clause-given c =
    subst (λ (b : GroundBase). IsGroundBase b) (sym c.in_ok-base.ensures)
    (ground-base c.args.vocabulary.now c.args.known.now c.requires.known (λ k. true))

pub push_definitions-requires-clause-known : goal.push_definitions-requires-clause-known
push_definitions-requires-clause-known c =
    subst (λ (b : GroundBase). KnowsAtoms b) (sym c.in_ok-base.ensures)
    (knows-atoms c.args.vocabulary.now c.args.known.now)

pub push_definitions-requires-clause-rules : goal.push_definitions-requires-clause-rules
push_definitions-requires-clause-rules c =
    subst (λ (b : GroundBase). AllByRecursion (λ d. AllByRecursion (CanBeGround b) d.rules)
    (map definition_view c.as_slice-2.result.now)) (sym c.in_ok-base.ensures)
    (subst (λ ds. AllByRecursion (λ d. AllByRecursion
    (CanBeGround (base_of_data c.args.vocabulary.now c.args.known.now)) d.rules) (map definition_view ds))
    (sym c.as_slice-2.ensures) c.requires.rules)

pub push_terms-requires-clause-given : goal.push_terms-requires-clause-given
push_terms-requires-clause-given c =
    subst (λ (b : GroundBase). IsGroundBase b) (sym c.in_ok-base.ensures)
    (ground-base c.args.vocabulary.now c.args.known.now c.requires.known (λ k. true))

pub push_terms-requires-clause-fits : goal.push_terms-requires-clause-fits
push_terms-requires-clause-fits c =
    subst (λ (b : GroundBase). AllByRecursion (λ t. IsAskable b t.term)
    (map named_term (map named_term_view c.args.terms.now))) (sym c.in_ok-base.ensures) c.requires.asked
