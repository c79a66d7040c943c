use Rattle.std.proofs.Common.{◌≡◌, ◌++◌, drop, map}
use Rattle.std.specs.List.{flat_map}
use Rattle.kb_logic.specs.Views.{rule_view}
use Rattle.stage_definitions.specs.IntegerArguments.{item_integers}
use Rattle.stage_definitions.specs.TheoryItems as item
use Rattle.data_refusals.specs.PlacedViews.{placed_views}
use Rattle.data_refusals.proofs.items.definition.Given as goal

abbrev pub invariant-loop-one : goal.invariant-loop-one
invariant-loop-one l =
    placed_views l.found.items ++ flat_map (item_integers l.symbols)
    (map (λ r. item.rule r) (map rule_view (drop l.one-index l.rules)))
    ≡ placed_views l.initial.found.items ++ flat_map (item_integers l.symbols)
    (map (λ r. item.rule r) (map rule_view l.rules))
