use Rattle.std.proofs.Common.{◌≡◌, drop, fold, map}
use Rattle.stage_definitions.specs.BlocksStage.{block_noted, one_of_each}
use Rattle.block_choice.proofs.blocks.note_further.Given as goal

abbrev pub invariant-loop-i : goal.invariant-loop-i
invariant-loop-i g l =
    fold block_noted l.earliest.first (one_of_each l.i (map (λ h. h.place)
    (map g.B.Headed.header_of (drop l.i l.blocks))))
    ≡ fold block_noted l.initial.earliest.first (one_of_each 0 (map (λ h. h.place) (map g.B.Headed.header_of l.blocks)))
