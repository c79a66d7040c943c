use Rattle.std.proofs.Common.{◌≡◌, ◌+◌, map, drop}
use Rattle.std.specs.List.{AllByRecursion, sum_by}
use Rattle.kb_logic.specs.Views.{rule_view}
use Rattle.stage_definitions.specs.SizesStage.{capped}
use Rattle.size_stage.proofs.Capping.{Same}
use Rattle.open_sizes.specs.Fits.{BodyFits}
use Rattle.open_sizes.specs.OpenWeights.{open_in_rule}
use Rattle.open_sizes.proofs.bases.rules.Given as goal

abbrev pub invariant-loop-one : goal.invariant-loop-one
invariant-loop-one l =
    let v = l.setting.vocabulary.now in
    let k = l.setting.known.now in
    let left = map rule_view (drop l.one-index l.all) in
    Same (l.count + sum_by (open_in_rule v k) left) (sum_by (open_in_rule v k) (map rule_view l.all))
    × (l.count ≡ capped l.count) × AllByRecursion (BodyFits k) left
