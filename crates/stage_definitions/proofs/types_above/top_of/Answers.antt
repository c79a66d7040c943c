use Rattle.std.proofs.Common.{◌≡◌, ◌-◌, ◌∙◌, zero, suc, length, ap, sym, arith}
use Rattle.stage_definitions.specs.Below.{type_parents}
use Rattle.stage_definitions.specs.Kinship.{climbed}
use Rattle.stage_definitions.proofs.ChainEnds.{stays, goes_up}
use Rattle.stage_definitions.proofs.types_above.top_of.Goals as goal

pub loop-step-init : goal.loop-step-init
loop-step-init c = λ m sum. let all : m ≡ length c.args.types.now = omega (arith, sum) in
    ap (λ n. climbed n (type_parents c.args.types.now) c.args.ty) all

pub returns-in_default : goal.returns-in_default
returns-in_default c =
    let m = length c.args.types.now - c.loop-step._step in
    sym (stays m (type_parents c.args.types.now) c.loop-step.at (sym c.parent_of.ensures ∙ c.in_default.is))
    ∙ c.loop-step.invariant m (omega arith)

pub loop-step-preserved : goal.loop-step-preserved
loop-step-preserved c = λ m sum. sym (goes_up m (type_parents c.args.types.now) c.loop-step.at c.in-Some.parent
    (sym c.parent_of.ensures ∙ c.in-Some.is)) ∙ c.loop-step.invariant (suc m) (omega (arith, sum))

pub returns : goal.returns
returns c = c.loop-step.invariant zero (omega arith)
