use Rattle.std.proofs.Common.{◌≡◌, fold, map, take}
use Rattle.std.specs.List.{flat_map}
use Rattle.stage_definitions.specs.FileView.{theory_in}
use Rattle.stage_definitions.specs.NamesStage.{name_noted}
use Rattle.stage_definitions.specs.Numbering.{named_theory}
use Rattle.stage_definitions.specs.Uses.{uses_in_theory}
use Rattle.stage_definitions.specs.FileViews.{theory_view}
use Rattle.formula_names.specs.Meanings.{names_in}
use Rattle.kb_names.proofs.files.theories.Given as goal

abbrev pub invariant-loop-raw : goal.invariant-loop-raw
invariant-loop-raw l = record {
  named : map theory_view l.named.items ≡ map (named_theory (names_in l.table))
      (map theory_in (take l.raw-index l.blocks));
  noted : l.earliest.first ≡ fold (name_noted (names_in l.table)) l.initial.earliest.first
      (flat_map (uses_in_theory (names_in l.table)) (map theory_in (take l.raw-index l.blocks)));
}
