use Rattle.std.proofs.Common.{refl}
use Rattle.stage_definitions.proofs.Climbs.{climb_on}
use Rattle.kb_names.proofs.cycles.note_cycles.Goals as goal

pub loop-ty-preserved : goal.loop-ty-preserved
loop-ty-preserved c = λ names types are.
    climb_on names c.args.parents.now c.loop-ty.ty _ c.loop-ty.earliest.first c.note_cycle.new.earliest.first _ types
    c.args.places.now
    are c.loop-ty-test.true refl c.note_cycle.ensures (c.loop-ty.invariant names types are)
