use Rattle.kb_logic.specs.Views.{term_view}
use Rattle.term_walk.proofs.AskedSteps.{summands-within}
use Rattle.term_walk.proofs.terms.asked_sum.Goals as goal

pub weighed-requires-clause-rows : goal.weighed-requires-clause-rows
weighed-requires-clause-rows c =
    rw (c.as_slice.ensures.value, c.in_ok-summands.ensures)
    (summands-within c.args.base.now c.args.problem.now c.requires.given c.requires.room (term_view c.args.term.now))
