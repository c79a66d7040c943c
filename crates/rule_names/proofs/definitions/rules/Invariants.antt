use Rattle.std.proofs.Common.{◌≡◌, fold, map, take}
use Rattle.std.specs.List.{flat_map}
use Rattle.grammar.specs.BlockView as block
use Rattle.stage_definitions.specs.NamedViews.{rule_view}
use Rattle.stage_definitions.specs.NamesStage.{name_noted}
use Rattle.stage_definitions.specs.Numbering.{named_rule}
use Rattle.stage_definitions.specs.Uses.{uses_in_rule}
use Rattle.formula_names.specs.Meanings.{names_in}
use Rattle.rule_names.proofs.definitions.rules.Given as goal

abbrev pub invariant-loop-one : goal.invariant-loop-one
invariant-loop-one l = record {
  rules : map rule_view l.named.items ≡ map (named_rule (names_in l.around.table.now)) (map block.rule_view (take l.one-index l.raw));
  noted : l.earliest.first ≡ fold (name_noted (names_in l.around.table.now)) l.initial.earliest.first
      (flat_map (uses_in_rule (names_in l.around.table.now) l.around.defined.now) (map block.rule_view (take l.one-index l.raw)));
}
