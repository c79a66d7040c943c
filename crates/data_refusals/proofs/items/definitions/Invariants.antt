use Rattle.std.proofs.Common.{◌≡◌, ◌++◌, drop, map}
use Rattle.std.specs.List.{flat_map}
use Rattle.kb_logic.specs.Views.{definition_view}
use Rattle.stage_definitions.specs.IntegerArguments.{item_integers}
use Rattle.stage_definitions.specs.TheoryItems as item
use Rattle.data_refusals.specs.PlacedViews.{placed_views}
use Rattle.data_refusals.proofs.items.definitions.Given as goal

abbrev pub invariant-loop-one : goal.invariant-loop-one
invariant-loop-one l =
    placed_views l.found.items ++ flat_map (item_integers l.symbols)
    (flat_map (λ d. map (λ r. item.rule r) d.rules) (map definition_view (drop l.one-index l.all)))
    ≡ placed_views l.initial.found.items ++ flat_map (item_integers l.symbols)
    (flat_map (λ d. map (λ r. item.rule r) d.rules) (map definition_view l.all))
