use Rattle.std.proofs.Common.{◌≡◌, ◌+◌, [], map, drop}
use Rattle.std.specs.List.{AllByRecursion, sum_by}
use Rattle.certain_truth.specs.KnownArithmetic.{ValueFits}
use Rattle.type_derivation.specs.TypedViews.{named_term_view}
use Rattle.stage_definitions.specs.SizesStage.{capped}
use Rattle.size_stage.proofs.Capping.{Same}
use Rattle.open_sizes.specs.OpenWeights.{open_in_asked}
use Rattle.open_sizes.proofs.bases.asked.Given as goal

abbrev pub invariant-loop-one : goal.invariant-loop-one
invariant-loop-one l =
    let v = l.setting.vocabulary.now in
    let k = l.setting.known.now in
    let left = map (λ t. t.term) (map named_term_view (drop l.one-index l.all)) in
    Same (l.count + sum_by (open_in_asked v k) left)
    (sum_by (open_in_asked v k) (map (λ t. t.term) (map named_term_view l.all)))
    × (l.count ≡ capped l.count) × AllByRecursion (λ t. ValueFits k t []) left
