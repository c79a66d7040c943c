use Rattle.std.proofs.Common.{◌≡◌, take, fold, map}
use Rattle.std.specs.List.{flat_map}
use Rattle.stage_definitions.specs.BlocksStage.{block_noted, uses_of_header}
use Rattle.stage_definitions.specs.FileView.{file_in}
use Rattle.block_choice.proofs.picking.note_headers.Given as goal

abbrev pub invariant-loop-block : goal.invariant-loop-block
invariant-loop-block g l =
    l.earliest.first ≡ fold block_noted l.initial.earliest.first (flat_map (uses_of_header (file_in l.raw))
    (map g.B.Headed.header_of (take l.block-index l.blocks)))
