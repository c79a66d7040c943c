use Rattle.std.proofs.Common.{◌≤◌, sym, subst}
use Rattle.kb_logic.specs.Bases.{Base}
use Rattle.stage_definitions.specs.FileBases.{base_of_file}
use Rattle.type_derivation.specs.TypedViews.{typed_view}
use Rattle.open_sizes.specs.OpenWeights.{base_weight}
use Rattle.ground_core.specs.Meaning.{HasTermsInRange}
use Rattle.ground_core.specs.Problems.{ProblemState}
use Rattle.def_ground.specs.Groundings.{IsGroundingOf, HasNoBounds}
use Rattle.theory_laws.proofs.ProblemLaws.{problem-has-no-bounds}
use Rattle.narrowed_bases.specs.Narrowings.{grounded_base}
use Rattle.narrowed_bases.proofs.Right.{narrowed_is_right}
use Rattle.narrowed_bases.proofs.Small.{narrowed_is_in_range, narrowed_is_small}
use Rattle.grounder.proofs.problems.ground.Goals as goal

pub returns-in-Ok-clause-right : goal.returns-in-Ok-clause-right
returns-in-Ok-clause-right c =
    let base : Base = base_of_file (typed_view c.args.kb.now) c.args.theory c.args.known.now in
    subst (λ (p : ProblemState). IsGroundingOf base p) (sym c.in-Ok.ensures)
    (narrowed_is_right base c.args.narrowing.now c.requires.typed c.requires.narrowing)

pub returns-in-Ok-clause-bounds : goal.returns-in-Ok-clause-bounds
returns-in-Ok-clause-bounds c =
    let base : Base = base_of_file (typed_view c.args.kb.now) c.args.theory c.args.known.now in
    subst (λ (p : ProblemState). HasNoBounds p) (sym c.in-Ok.ensures)
    (problem-has-no-bounds (grounded_base base c.args.narrowing.now))

pub returns-in-Ok-clause-range : goal.returns-in-Ok-clause-range
returns-in-Ok-clause-range c =
    let base : Base = base_of_file (typed_view c.args.kb.now) c.args.theory c.args.known.now in
    subst (λ (p : ProblemState). HasTermsInRange p) (sym c.in-Ok.ensures)
    (narrowed_is_in_range base c.args.narrowing.now c.requires.typed c.requires.narrowing c.requires.asked)

pub returns-in-Ok-clause-small : goal.returns-in-Ok-clause-small
returns-in-Ok-clause-small c =
    let base : Base = base_of_file (typed_view c.args.kb.now) c.args.theory c.args.known.now in
    subst (λ (p : ProblemState). p.vars ≤ base_weight base) (sym c.in-Ok.ensures)
    (narrowed_is_small base c.args.narrowing.now c.requires.typed c.requires.narrowing)
