use Rattle.std.proofs.Common.{◌≡◌, ◌++◌, drop, map}
use Rattle.std.specs.Prelude.{flat_map}
use Rattle.kb_logic.specs.Views.{rule_view}
use Rattle.stage_definitions.specs.Sizes.{item_bounds}
use Rattle.size_stage.specs.Notes.{rules_in}
use Rattle.size_stage.specs.Ranges.{wide_at}
use Rattle.size_stage.proofs.theory_bounds.rules.Given as goal

abbrev pub invariant-loop-one : goal.invariant-loop-one
invariant-loop-one l =
    l.wide.items ++ wide_at (flat_map (item_bounds l.setting.vocab.now l.setting.domains.now)
    (rules_in (map rule_view (drop l.one-index l.all)))) ≡ l.fn.wide.items ++ wide_at
    (flat_map (item_bounds l.setting.vocab.now l.setting.domains.now) (rules_in (map rule_view l.all)))
