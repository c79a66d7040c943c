use Rattle.plain_evaluation.specs.Environments.{env_view}
use Rattle.kb_logic.specs.Views.{term_view}
use Rattle.ground_walk.proofs.LeafSteps.{rows-in}
use Rattle.ground_walk.proofs.weights.add_weighed.Goals as goal

pub push_weighed-requires-clause-rows : goal.push_weighed-requires-clause-rows
push_weighed-requires-clause-rows c =
    rw c.in_ok-rows.ensures
    (rows-in c.args.scope.base.now (term_view c.in-Some.term.now) (env_view c.args.scope.env.now) c.args.problem.now
    c.requires.given c.requires.room)
