use Rattle.std.proofs.Common.{rules, ◌≡◌, ℕ, Bool, FitsSigned, to_z, of_z, sym, ap, ◌∙◌}
use Rattle.std.specs.Cmp.{booleans_Decides}
use Rattle.std.specs.Int.{w128}
use Rattle.std.proofs.lemmas.Int.{to_z-of_z}
use Rattle.lit_core.specs.Literals.{literal_value, valuation}
use Rattle.ground_core.specs.declared.parts.Part.{Part}
use Rattle.ground_core.specs.Meaning.{parts_value}
use Rattle.ground_core.specs.Intervals.{reaches}
use Rattle.aggregate_propagators.specs.Totals.{goal_of, met, total, with_side}
use Rattle.aggregate_propagators.specs.Thresholds.{amount_of}
use Rattle.aggregate_propagators.proofs.Sums.{reaches-by-totals}
use Rattle.aggregate_propagators.proofs.valuations.is_sum_held.Goals as goal

pub returns : goal.returns
returns c =
    let v : ℕ → Bool = valuation c.args.values.now in
    let s = c.args.c.now in
    let f = λ (p : Part). literal_value v p.lit in
    let t = c.threshold_of-threshold.result in
    let fits : FitsSigned w128 c.total_of-sum.result = search rules in
    let back : to_z w128 (of_z w128 c.total_of-sum.result) ≡ total f t.kind (amount_of t.least) s.parts =
    to_z-of_z w128 c.total_of-sum.result fits
    ∙ (c.total_of-sum.ensures ∙ ap (total f t.kind (amount_of t.least)) c.as_slice.ensures) in
    let side : c.is_reached.result ≡ with_side s.kind (met (goal_of s.kind s.least) (total f s.kind s.least s.parts)) =
    rw (← c.threshold_of-threshold.ensures.kind, ← c.threshold_of-threshold.ensures.least) (c.is_reached.ensures
    ∙ ap (λ z. with_side t.kind (met (goal_of t.kind (amount_of t.least)) z)) back) in
    let reached : c.is_reached.result ≡ reaches s.least (parts_value v s.kind s.parts) =
    side ∙ sym (reaches-by-totals f s.kind s.least s.parts) in
    let both = booleans_Decides c.value_of.result c.is_reached.result in (
      λ e. sym c.value_of.ensures ∙ both.0 e ∙ reached,
      λ h. both.1 (c.value_of.ensures ∙ h ∙ sym reached),
    )
