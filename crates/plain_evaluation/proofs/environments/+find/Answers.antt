use Rattle.std.proofs.lemmas.Option.{slice_get-get_or}
use Rattle.plain_evaluation.specs.Environments.{env_view, frame_view}
use Rattle.kb_logic.proofs.Assignments.{choice_length}
use Rattle.plain_evaluation.proofs.Envs.{env_view-Given, env_view-Bound, get_front, get_behind, past_both}
use Rattle.plain_evaluation.proofs.environments.+find.Goals as goal

pub returns-then-n-given : goal.returns-then-n-given
returns-then-n-given t c = rw (c.in-Given.is, env_view-Given)
    (slice_get-get_or c.in-Given.given.now c.args.n _ c.if-n-given.true)

pub returns-in-Ok : goal.returns-in-Ok
returns-in-Ok t c = rw (c.in-Bound.is, env_view-Bound) (get_front (env_view c.in-Bound.outer.now) _ c.args.n _
    c.in-Ok.ensures)

pub returns-then-past-frame : goal.returns-then-past-frame
returns-then-past-frame t c =
    rw (c.in-Bound.is, env_view-Bound) (get_behind (env_view c.in-Bound.outer.now) (frame_view c.in-Bound.frame)
    c.args.n c.in-Err.past _ c.in-Err.ensures c.element.ensures)

pub returns-else-past-frame : goal.returns-else-past-frame
returns-else-past-frame t c =
    let block = c.in-Bound.frame.block in
    let long = choice_length block.domains.now block.bounds.now c.in-Bound.frame.number
    (rw (← block.counted) c.in-Bound.frame.within) in
    rw (c.in-Bound.is, env_view-Bound) (past_both (env_view c.in-Bound.outer.now) (frame_view c.in-Bound.frame) c.args.n
    c.in-Err.past _ c.in-Err.ensures long c.if-past-frame.false)
