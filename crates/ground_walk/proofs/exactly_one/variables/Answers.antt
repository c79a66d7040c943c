use Rattle.std.proofs.Common.{◌+◌, [], ◌++◌, take, sym, ap, ◌∙◌}
use Rattle.def_ground.specs.Problems.{with_open, open_variables}
use Rattle.def_ground.proofs.WithClauses.{next_variable}
use Rattle.ground_walk.proofs.exactly_one.variables.Goals as goal

pub loop-place-preserved : goal.loop-place-preserved
loop-place-preserved c =
    let b = c.args.base.now in
    let k = c.loop-place.place in
    let n = c.args.first + k in
    c.in_ok-push_open.ensures
    ∙ ap (λ ls. ls ++ with_open c.known.result n []) c.loop-place.invariant
    ∙ ap (λ o. open_variables b c.args.first (take k c.args.values.now) ++ with_open o n []) c.known.ensures
    ∙ sym (next_variable b c.args.first c.args.values.now k c.loop-place-test.true)
