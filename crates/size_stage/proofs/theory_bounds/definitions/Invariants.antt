use Rattle.std.proofs.Common.{◌≡◌, ◌++◌, drop, map}
use Rattle.std.specs.Prelude.{flat_map}
use Rattle.kb_logic.specs.Views.{definition_view}
use Rattle.stage_definitions.specs.Sizes.{item_bounds}
use Rattle.size_stage.specs.Notes.{rules_of}
use Rattle.size_stage.specs.Ranges.{wide_at}
use Rattle.size_stage.proofs.theory_bounds.definitions.Given as goal

abbrev pub invariant-loop-one : goal.invariant-loop-one
invariant-loop-one l =
    l.wide.items ++ wide_at (flat_map (item_bounds l.setting.vocab.now l.setting.domains.now)
    (flat_map rules_of (map definition_view (drop l.one-index l.all)))) ≡ l.fn.wide.items ++ wide_at
    (flat_map (item_bounds l.setting.vocab.now l.setting.domains.now) (flat_map rules_of (map definition_view l.all)))
