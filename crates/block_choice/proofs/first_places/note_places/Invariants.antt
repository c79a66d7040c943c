use Rattle.std.proofs.Common.{List, ◌++◌, take, map}
use Rattle.grammar.specs.Trees.{Name}
use Rattle.stage_definitions.specs.BlocksStage.{header_names}
use Rattle.block_choice.specs.Choices.{AreFirstPlaces}
use Rattle.block_choice.proofs.first_places.note_places.Given as goal

abbrev pub invariant-loop-block : goal.invariant-loop-block
invariant-loop-block g l =
    (names : List Name) → AreFirstPlaces names l.initial.first
    → AreFirstPlaces (names ++ header_names (map g.B.Headed.header_of (take l.block-index l.blocks))) l.first
