use Rattle.std.proofs.Common.{true, sym, subst}
use Rattle.term_values.specs.GroundBases.{GroundBase}
use Rattle.term_values.specs.KnownBases.{IsGroundBase}
use Rattle.term_values.proofs.KnownLaws.{ground-base}
use Rattle.ground_walk.specs.Groundable.{KnowsAtoms}
use Rattle.ground_walk.proofs.GroundableLaws.{knows-atoms}
use Rattle.grounder.proofs.problems.refuted.Goals as goal

pub problem_of-requires-clause-given : goal.problem_of-requires-clause-given
problem_of-requires-clause-given c =
    subst (λ (b : GroundBase). IsGroundBase b) (sym c.in_ok-base.ensures)
    (ground-base c.args.vocabulary.now c.args.known.now c.requires.known (λ k. true))

pub problem_of-requires-clause-known : goal.problem_of-requires-clause-known
problem_of-requires-clause-known c =
    subst (λ (b : GroundBase). KnowsAtoms b) (sym c.in_ok-base.ensures)
    (knows-atoms c.args.vocabulary.now c.args.known.now)
