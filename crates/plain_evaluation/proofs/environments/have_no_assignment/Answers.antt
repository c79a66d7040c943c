use Rattle.std.proofs.Common.{sym, ◌∙◌}
use Rattle.plain_evaluation.proofs.NoAssignments.{none_behind}
use Rattle.plain_evaluation.proofs.environments.have_no_assignment.Goals as goal

pub loop-bound-preserved : goal.loop-bound-preserved
loop-bound-preserved c =
    let step = none_behind c.args.domains.now c.args.bounds.now c.loop-bound.bound-index c.bound-item.result
    c.domain_in.result.now c.loop-bound-test.true c.bound-item.is c.domain_in.ensures
    (sym c.is_empty.ensures ∙ c.if-is_empty.false) in
    (λ none. step.0 (c.loop-bound.invariant.0 none), λ none. c.loop-bound.invariant.1 (step.1 none))
