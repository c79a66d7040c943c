use Rattle.std.proofs.Common.{◌≡◌, ◌++◌, take, fold, map}
use Rattle.stage_definitions.specs.FileView.{tail_name}
use Rattle.stage_definitions.specs.NamesStage.{name_noted}
use Rattle.stage_definitions.specs.Numbering.{type_number_of}
use Rattle.stage_definitions.specs.Uses as use_of
use Rattle.formula_names.specs.Meanings.{names_in}
use Rattle.formula_names.proofs.positions.more_positions.Given as goal

abbrev pub invariant-loop-tail : goal.invariant-loop-tail
invariant-loop-tail l = record {
  types : l.types ≡ l.initial.types ++ map (type_number_of (names_in l.table))
      (map tail_name (take l.tail-index l.more));
  noted : l.earliest.first ≡ fold (name_noted (names_in l.table)) l.initial.earliest.first
      (map use_of.position (map tail_name (take l.tail-index l.more)));
}
