use Rattle.std.proofs.Common.{rules, ◌≡◌, FitsSigned, to_z, of_z, ap, ◌∙◌}
use Rattle.std.specs.Int.{w128}
use Rattle.std.proofs.lemmas.Int.{to_z-of_z}
use Rattle.kb_logic.specs.Denotations.{number}
use Rattle.lit_core.specs.Literals.{valuation}
use Rattle.term_bounds.specs.Amounts.{amount_of, is_under}
use Rattle.term_bounds.specs.Totals.{total}
use Rattle.term_bounds.proofs.BreakFacts.{below-by-total}
use Rattle.term_bounds.proofs.trials.is_term_below.Goals as goal

pub returns : goal.returns
returns c =
    let k = c.of-line.result.kind in
    let bound = amount_of c.of-line.result.bound in
    let ps = c.as_slice.result.now in
    let v = valuation c.args.values.now in
    let fits : FitsSigned w128 c.total_in-sum.result = search rules in
    let back : to_z w128 (of_z w128 c.total_in-sum.result) ≡ total v k bound ps = to_z-of_z w128 c.total_in-sum.result
    fits ∙ c.total_in-sum.ensures in
    c.is_below.ensures
    ∙ ap (λ z. is_under (amount_of c.total_bound.result) (number z)) back
    ∙ ap (λ b. is_under b (number (total v k bound ps))) c.total_bound.ensures
    ∙ below-by-total c.args.term.now c.args.below k bound ps v c.of-line.ensures.kind c.of-line.ensures.bound
    c.as_slice.ensures
