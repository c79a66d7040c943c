use Rattle.std.proofs.Common.{rules, ◌≡◌, FitsSigned, to_z, of_z, ap, ◌∙◌}
use Rattle.std.specs.Int.{w128}
use Rattle.std.proofs.lemmas.Int.{to_z-of_z}
use Rattle.aggregate_propagators.specs.Totals.{goal_of}
use Rattle.aggregate_propagators.specs.Implied.{assigned, under}
use Rattle.aggregate_propagators.specs.Once.{end_total}
use Rattle.aggregate_propagators.specs.Spared.{spare_of}
use Rattle.aggregate_propagators.specs.Thresholds.{constraint_of}
use Rattle.aggregate_propagators.proofs.explained.spare_of_end.Goals as goal

pub returns-clause-value : goal.returns-clause-value
returns-clause-value c =
    let a = under (assigned c.args.values.now) c.args.with in
    let con = constraint_of c.args.c c.args.parts.now in
    let fits : FitsSigned w128 c.total_at-sum.result = search rules in
    let back : to_z w128 (of_z w128 c.total_at-sum.result) ≡ end_total a c.args.high con.kind con.least con.parts =
    to_z-of_z w128 c.total_at-sum.result fits ∙ c.total_at-sum.ensures.value in
    let spare-fits : FitsSigned w128 c.spare_around.result = search rules in
    to_z-of_z w128 c.spare_around.result spare-fits
    ∙ (c.spare_around.ensures.value
    ∙ (ap (λ g. spare_of g (to_z w128 (of_z w128 c.total_at-sum.result))) c.goal.ensures.value
    ∙ ap (spare_of (goal_of con.kind con.least)) back))
