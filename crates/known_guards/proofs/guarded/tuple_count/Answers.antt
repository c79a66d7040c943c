use Rattle.std.proofs.Common.{◌*◌, length, ap, ◌∙◌}
use Rattle.kb_logic.specs.Structures.{tuples_of}
use Rattle.ground_core.proofs.AtomCounts.{next-factor}
use Rattle.known_guards.proofs.guarded.tuple_count.Goals as goal

pub loop-ty-preserved : goal.loop-ty-preserved
loop-ty-preserved c =
    next-factor c.args.domains.now c.args.types.now c.loop-ty.ty-index c.loop-ty.count c.in-Some.product
    (length (tuples_of c.args.domains.now c.args.types.now)) c.loop-ty-test.true c.loop-ty.invariant
    (c.in-Some.ensures.1 ∙ ap (λ xs. c.loop-ty.count * length xs) c.domain_in.ensures)
