use Rattle.std.proofs.Common.{◌∙◌, ◌+◌, ◌*◌, length, drop, get_or, sym, ap}
use Rattle.kb_logic.specs.Structures.{domain_at, tuples_of}
use Rattle.stage_definitions.specs.SizesStage.{capped}
use Rattle.size_stage.proofs.Capping.{exact_factor, stays}
use Rattle.size_stage.proofs.Steps.{tuples_at}
use Rattle.size_stage.proofs.weights.tuples.Goals as goal

pub loop-ty-preserved : goal.loop-ty-preserved
loop-ty-preserved c =
    let d = c.args.domains.now in
    let types = c.args.types.now in
    let i = c.loop-ty.ty-index in
    let ty = get_or types i 0 in
    let next = tuples_at d types i c.loop-ty-test.true in (
      exact_factor c.loop-ty.count c.times-count.result c.type_size.result (length (domain_at d ty))
          (length (tuples_of d (drop (i + 1) types))) (length (tuples_of d types))
          c.times-count.ensures c.type_size.ensures (ap (λ n. capped (c.loop-ty.count * n)) (sym next)
          ∙ c.loop-ty.invariant.0),
      stays c.times-count.result (c.loop-ty.count * c.type_size.result) c.times-count.ensures,
    )
