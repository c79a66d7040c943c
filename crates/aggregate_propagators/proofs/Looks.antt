-- What a look at an end of the interval says of an unassigned part.
use Rattle.std.proofs.Common.{◌≡◌, ℕ, ℤ, Bool, Option, Some, None, List, Contains, ap, ◌∙◌}
use Rattle.lit_core.specs.Literals.{by_sign}
use Rattle.ground_core.specs.declared.parts.Part.{Part}
use Rattle.ground_core.specs.Intervals.{known_of, changed, contradicts}
use Rattle.aggregate_propagators.specs.declared.single.End.{End}
use Rattle.aggregate_propagators.specs.declared.thresholds.Threshold.{Threshold}
use Rattle.aggregate_propagators.specs.Laws.{HasVarsOnce}
use Rattle.aggregate_propagators.specs.Looking.{IsEndOf}
use Rattle.aggregate_propagators.specs.Once.{moved}
use Rattle.aggregate_propagators.specs.Reasons.{differ}
use Rattle.aggregate_propagators.specs.Thresholds.{amount_of, constraint_of}
use Rattle.aggregate_propagators.specs.Totals.{goal_of, met, with_side}
use Rattle.aggregate_propagators.proofs.Deciding.{by-total}
use Rattle.aggregate_propagators.proofs.Singles.{wrong-by-moved}

-- whether the end contradicts the result
abbrev pub wrong : End → Bool
wrong e = differ e.high (with_side e.of.kind (met (goal_of e.of.kind (amount_of e.of.least)) e.sum))

pub wrong-now : (a : ℕ → Option Bool) (ps : List Part) (e : End) → IsEndOf a ps e
    → wrong e ≡ contradicts a (constraint_of e.of ps)
wrong-now a ps e is =
    ap (λ z. differ e.high (with_side e.of.kind (met (goal_of e.of.kind (amount_of e.of.least)) z))) is.sum
    ∙ by-total a (constraint_of e.of ps) e.high is.out

pub wrong-end : (a : ℕ → Option Bool) (ps : List Part) (e m : End) (p : Part) (value : Bool) → IsEndOf a ps e
    → HasVarsOnce ps → Contains ps p → known_of a p.lit ≡ None → m.of ≡ e.of → m.high ≡ e.high
    → m.sum ≡ moved e.high e.of.kind (amount_of e.of.least) p.weight (Some value) e.sum
    → wrong m ≡ contradicts (changed a p.lit.var.0 (by_sign p.lit.positive value)) (constraint_of e.of ps)
wrong-end a ps e m p value is once here none of high sum =
    let w : Threshold → Bool → ℤ → Bool =
    λ t h z. differ h (with_side t.kind (met (goal_of t.kind (amount_of t.least)) z)) in
    ap (λ t. w t m.high m.sum) of ∙ (ap (λ h. w e.of h m.sum) high ∙ (ap (w e.of e.high) sum
    ∙ (ap (λ z. w e.of e.high (moved e.high e.of.kind (amount_of e.of.least) p.weight (Some value) z)) is.sum
    ∙ wrong-by-moved a (constraint_of e.of ps) e.high p value once here is.out none)))
