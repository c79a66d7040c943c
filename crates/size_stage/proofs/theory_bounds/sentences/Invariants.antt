use Rattle.std.proofs.Common.{◌≡◌, ◌++◌, [], drop, map}
use Rattle.std.specs.Prelude.{flat_map}
use Rattle.kb_logic.specs.Views.{formula_view}
use Rattle.stage_definitions.specs.Sizes.{item_bounds}
use Rattle.size_stage.specs.Notes.{sentences_in}
use Rattle.size_stage.specs.Ranges.{wide_at}
use Rattle.size_stage.proofs.theory_bounds.sentences.Given as goal

abbrev pub invariant-loop-one : goal.invariant-loop-one
invariant-loop-one l =
    (l.scope.items ≡ [])
    × (l.wide.items ++ wide_at (flat_map (item_bounds l.setting.vocab.now l.setting.domains.now)
    (sentences_in (map formula_view (drop l.one-index l.all)))) ≡ l.fn.wide.items ++ wide_at
    (flat_map (item_bounds l.setting.vocab.now l.setting.domains.now) (sentences_in (map formula_view l.all))))
