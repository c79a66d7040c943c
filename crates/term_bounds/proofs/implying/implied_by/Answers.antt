use Rattle.std.proofs.Common.{rules, ◌≡◌, ℤ, ◌+ℤ◌, ◌≤ℤ◌, false, FitsSigned, to_z, of_z, ◌∙◌, subst, arith}
use Rattle.std.specs.Int.{w128}
use Rattle.std.proofs.lemmas.Int.{ints, to_z-of_z}
use Rattle.kb_logic.specs.Denotations.{number}
use Rattle.term_bounds.specs.Amounts.{amount_of, is_under}
use Rattle.term_bounds.specs.Shares.{least_total}
use Rattle.term_bounds.specs.Totals.{total_bound}
use Rattle.term_bounds.proofs.ImplyFacts.{implied-where-not}
use Rattle.term_bounds.proofs.implying.implied_by.Goals as goal

pub returns-clause-implied : goal.returns-clause-implied
returns-clause-implied c =
    let a = c.args.assignment.now in
    let k = c.of-line.result.kind in
    let bound = amount_of c.of-line.result.bound in
    let ps = c.as_slice-parts.result.now in
    let gap : ℤ = to_z w128 (of_z w128 c.in-Some.gap) in
    let fits : FitsSigned w128 c.least_of-least.result = search rules in
    let back : to_z w128 (of_z w128 c.least_of-least.result) ≡ least_total a k bound ps =
    to_z-of_z w128 c.least_of-least.result fits ∙ c.least_of-least.ensures in
    let gap-fits : FitsSigned w128 c.in-Some.gap = search rules in
    let same : gap ≡ c.in-Some.gap = to_z-of_z w128 c.in-Some.gap gap-fits in
    let above : (z : ℤ) → (least_total a k bound ps +ℤ gap) ≤ℤ z → is_under (total_bound k bound) (number z) ≡ false =
    λ z le. subst (λ m. is_under m (number z) ≡ false) c.total_bound.ensures
    (c.in-Some.ensures z (omega (arith, ints, le, back, same))) in
    implied-where-not c.args.term.now c.args.bound a k bound ps c.of-line.ensures.kind c.of-line.ensures.bound
    c.as_slice-parts.ensures gap c.in_ok-reasons.reasons.items c.in_ok-reasons.ensures.reason above
    c.in_ok-lits.lits.items c.in_ok-lits.ensures
