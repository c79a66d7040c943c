use Rattle.std.proofs.Common.{rules, ◌≡◌, ℤ, ◌+ℤ◌, ◌≤ℤ◌, true, false, FitsSigned, to_z, of_z, ◌∙◌, subst}
use Rattle.std.proofs.Common.{arith}
use Rattle.std.specs.Int.{w128}
use Rattle.std.proofs.lemmas.Int.{ints, to_z-of_z}
use Rattle.kb_logic.specs.Denotations.{number}
use Rattle.term_bounds.specs.Amounts.{amount_of, is_under}
use Rattle.term_bounds.specs.Shares.{least_total}
use Rattle.term_bounds.specs.Totals.{total_bound}
use Rattle.term_bounds.proofs.BreakFacts.{broken-where-not, holds-where-below}
use Rattle.term_bounds.proofs.breaking.broken_by.Goals as goal

pub returns-in-None-clause-holds : goal.returns-in-None-clause-holds
returns-in-None-clause-holds c =
    let k = c.of-line.result.kind in
    let bound = amount_of c.of-line.result.bound in
    let ps = c.as_slice-parts.result.now in
    let fits : FitsSigned w128 c.least_of.result = search rules in
    let back : to_z w128 (of_z w128 c.least_of.result) ≡ least_total c.args.assignment.now k bound ps =
    to_z-of_z w128 c.least_of.result fits ∙ c.least_of.ensures in
    let below : is_under (total_bound k bound) (number (least_total c.args.assignment.now k bound ps)) ≡ true =
    subst (λ z. is_under (total_bound k bound) (number z) ≡ true) back
    (subst (λ m. is_under m (number (to_z w128 (of_z w128 c.least_of.result))) ≡ true) c.total_bound.ensures
    c.in-None.ensures.none) in
    λ v out decided. holds-where-below c.args.term.now c.args.bound c.args.assignment.now k bound ps
    c.of-line.ensures.kind c.of-line.ensures.bound c.as_slice-parts.ensures below v decided

pub returns-in_ok-reasons-in-Some-clause-broken : goal.returns-in_ok-reasons-in-Some-clause-broken
returns-in_ok-reasons-in-Some-clause-broken c =
    let k = c.of-line.result.kind in
    let bound = amount_of c.of-line.result.bound in
    let ps = c.as_slice-parts.result.now in
    let spare = to_z w128 (of_z w128 c.in-Some.spare) in
    let fits : FitsSigned w128 c.least_of.result = search rules in
    let back : to_z w128 (of_z w128 c.least_of.result) ≡ least_total c.args.assignment.now k bound ps =
    to_z-of_z w128 c.least_of.result fits ∙ c.least_of.ensures in
    let spare-fits : FitsSigned w128 c.in-Some.spare = search rules in
    let same : spare ≡ c.in-Some.spare = to_z-of_z w128 c.in-Some.spare spare-fits in
    let above : (z : ℤ) → least_total c.args.assignment.now k bound ps ≤ℤ (z +ℤ spare) → is_under (total_bound k bound)
    (number z) ≡ false =
    λ z le. subst (λ m. is_under m (number z) ≡ false) c.total_bound.ensures
    (c.in-Some.ensures.some.1 z (omega (arith, ints, le, back, same))) in
    broken-where-not c.args.term.now c.args.bound c.args.assignment.now k bound ps c.of-line.ensures.kind
    c.of-line.ensures.bound c.as_slice-parts.ensures spare c.in_ok-reasons-in-Some.field-0.items
    c.in_ok-reasons-in-Some.ensures.reason above
