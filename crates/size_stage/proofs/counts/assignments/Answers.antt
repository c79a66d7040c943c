use Rattle.std.proofs.Common.{◌∙◌, ◌+◌, ◌*◌, length, drop, sym, ap}
use Rattle.kb_logic.specs.Structures.{choices, domain_at}
use Rattle.stage_definitions.specs.SizesStage.{capped}
use Rattle.size_stage.proofs.Capping.{exact_factor, stays}
use Rattle.size_stage.proofs.Steps.{choices_at}
use Rattle.size_stage.proofs.counts.assignments.Goals as goal

pub loop-bound-preserved : goal.loop-bound-preserved
loop-bound-preserved c =
    let d = c.args.domains.now in
    let bs = c.args.bounds.now in
    let i = c.loop-bound.bound-index in
    let b = c.bound-item.result in
    let next = choices_at d bs i b c.loop-bound-test.true c.bound-item.is in (
      exact_factor c.loop-bound.count c.times-count.result c.elements.result (length (domain_at d b.ty))
          (length (choices d (drop (i + 1) bs))) (length (choices d bs))
          c.times-count.ensures c.elements.ensures (ap (λ n. capped (c.loop-bound.count * n)) (sym next)
          ∙ c.loop-bound.invariant.0),
      stays c.times-count.result (c.loop-bound.count * c.elements.result) c.times-count.ensures,
    )
