use Rattle.std.proofs.Common.{◌≡◌, take, fold, map}
use Rattle.std.specs.List.{flat_map}
use Rattle.stage_definitions.specs.FileView.{part_in}
use Rattle.stage_definitions.specs.NamesStage.{name_noted}
use Rattle.stage_definitions.specs.Numbering.{definitions_in, sentences_in}
use Rattle.stage_definitions.specs.Uses.{uses_in_part}
use Rattle.formula_names.specs.Meanings.{names_in}
use Rattle.stage_definitions.specs.NamedViews.{definition_view, formula_view}
use Rattle.kb_names.proofs.theories.theory.Given as goal

abbrev pub invariant-loop-raw : goal.invariant-loop-raw
invariant-loop-raw l = record {
  sentences : map formula_view l.parts.sentences.items ≡ flat_map (sentences_in (names_in l.table))
      (map part_in (take l.raw-index l.items));
  definitions : map definition_view l.parts.definitions.items ≡ flat_map (definitions_in (names_in l.table))
      (map part_in (take l.raw-index l.items));
  noted : l.earliest.first ≡ fold (name_noted (names_in l.table)) l.initial.earliest.first
      (flat_map (uses_in_part (names_in l.table)) (map part_in (take l.raw-index l.items)));
}
