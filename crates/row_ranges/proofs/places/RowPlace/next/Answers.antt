use Rattle.std.proofs.Common.{◌≡◌, ◌+◌, ◌*◌, subst, arith}
use Rattle.row_ranges.specs.Leads.{HasNoKey, first_step}
use Rattle.row_ranges.proofs.Searching.{none-after, none-before}
use Rattle.row_ranges.proofs.places.RowPlace.next.Goals as goal

pub returns-in-Some-clause-passed : goal.returns-in-Some-clause-passed
returns-in-Some-clause-passed c =
    let p = c.args.self in
    let is : c.step-step.result ≡ first_step p.steps.now = c.step-step.ensures in
    λ i low high.
    subst (λ k. HasNoKey p.keys.now (p.key + i * k) k) is
    (none-before p.keys.now p.key c.step-step.result c.args.at c.in-Some.found i (omega (arith, c.if-step-eq0.false))
    c.in-Some.ensures.1 low (omega (arith, high, c.min.ensures)))

pub returns-in-None-clause-passed : goal.returns-in-None-clause-passed
returns-in-None-clause-passed c =
    let p = c.args.self in
    let is : c.step-step.result ≡ first_step p.steps.now = c.step-step.ensures in
    λ i low high.
    subst (λ k. HasNoKey p.keys.now (p.key + i * k) k) is
    (none-after p.keys.now p.key c.step-step.result c.args.at i c.in-None.ensures low)
