use Rattle.std.proofs.Common.{◌≡◌, ◌+◌, [], map, drop}
use Rattle.std.specs.List.{AllByRecursion, sum_by}
use Rattle.kb_logic.specs.Views.{formula_view}
use Rattle.certain_truth.specs.KnownArithmetic.{CertaintyFits}
use Rattle.stage_definitions.specs.SizesStage.{capped}
use Rattle.size_stage.proofs.Capping.{Same}
use Rattle.open_sizes.specs.OpenWeights.{open_occurrences}
use Rattle.open_sizes.proofs.bases.sentences.Given as goal

abbrev pub invariant-loop-one : goal.invariant-loop-one
invariant-loop-one l =
    let v = l.setting.vocabulary.now in
    let k = l.setting.known.now in
    let left = map formula_view (drop l.one-index l.all) in
    Same (l.count + sum_by (λ f. open_occurrences v k f []) left)
    (sum_by (λ f. open_occurrences v k f []) (map formula_view l.all))
    × (l.count ≡ capped l.count) × AllByRecursion (λ f. CertaintyFits k f []) left
