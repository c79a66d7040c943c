use Rattle.std.proofs.Common.{sym, subst}
use Rattle.ground_core.specs.Problems.{IsLitOf, ArePartsOf}
use Rattle.ground_walk.proofs.StartSteps.{beside-within}
use Rattle.ground_walk.proofs.exactly_one.push_at_most_one.Goals as goal

pub add_constraint-requires : goal.add_constraint-requires
add_constraint-requires c =
    let n = c.args.problem.now.vars in
    let within = beside-within n c.args.first c.args.others.now c.requires.first c.requires.second in
    (subst (IsLitOf n) (sym c.negated.ensures) within.0, subst (ArePartsOf n) (sym c.in_ok-parts.ensures) within.1)
