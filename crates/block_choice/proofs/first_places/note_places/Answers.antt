use Rattle.std.proofs.Common.{ap, sym}
use Rattle.stage_definitions.specs.Files.{Header}
use Rattle.block_choice.proofs.Placing.{more_places}
use Rattle.block_choice.proofs.first_places.note_places.Goals as goal

pub loop-block-preserved : goal.loop-block-preserved
loop-block-preserved g c names are =
    more_places g.B.Headed.header_of c.args.blocks.now c.loop-block.block-index c.block-item.result names _
    c.note_place.new.first
    c.loop-block-test.true c.block-item.is (ap (λ (h : Header). h.name) (sym c.header.ensures))
    (c.in_ok-note_place.ensures _ (c.loop-block.invariant names are))
