use Rattle.std.proofs.Common.{rules, ◌≡◌, Some, FitsSigned, to_z, of_z, sym, ap, ◌∙◌}
use Rattle.std.specs.Int.{w128}
use Rattle.std.proofs.lemmas.Int.{to_z-of_z}
use Rattle.ground_core.specs.declared.parts.Part.{Part}
use Rattle.ground_core.specs.Intervals.{known_of}
use Rattle.aggregate_propagators.specs.Reasons.{differ, in_end}
use Rattle.aggregate_propagators.specs.Totals.{goal_of, met, total, with_side}
use Rattle.aggregate_propagators.specs.Implied.{assigned, under}
use Rattle.aggregate_propagators.specs.Thresholds.{constraint_of}
use Rattle.aggregate_propagators.proofs.Deciding.{by-total}
use Rattle.aggregate_propagators.proofs.contradictions.contradicted.Goals as goal

pub returns-in-Some : goal.returns-in-Some
returns-in-Some c =
    let a = under (assigned c.args.values.now) c.args.with in
    let con = constraint_of c.args.c c.args.parts.now in
    let k = con.kind in
    let b = con.least in
    let high = c.in-Some.high in
    let f = λ (p : Part). in_end high k p.weight (known_of a p.lit) in
    let fits : FitsSigned w128 c.total_at-sum.result = search rules in
    let back : to_z w128 (of_z w128 c.total_at-sum.result) ≡ total f k b con.parts =
    to_z-of_z w128 c.total_at-sum.result fits ∙ c.total_at-sum.ensures.value in
    let out : known_of a con.out ≡ Some high = sym c.value_under.ensures ∙ c.in-Some.is in
    c.is_other.ensures
    ∙ (ap (differ high) (c.is_reached.ensures ∙ ap (λ z. with_side k (met (goal_of k b) z)) back)
    ∙ by-total a con high out)
