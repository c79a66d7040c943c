use Rattle.std.proofs.Common.{◌≡◌, ◌+◌, map, drop}
use Rattle.std.specs.List.{AllByRecursion, sum_by}
use Rattle.kb_logic.specs.Trees.{DefinitionTree}
use Rattle.kb_logic.specs.Views.{definition_view}
use Rattle.stage_definitions.specs.SizesStage.{capped}
use Rattle.size_stage.proofs.Capping.{Same}
use Rattle.open_sizes.specs.Fits.{BodyFits}
use Rattle.open_sizes.specs.OpenWeights.{open_in_definition}
use Rattle.open_sizes.proofs.bases.definitions.Given as goal

abbrev pub invariant-loop-one : goal.invariant-loop-one
invariant-loop-one l =
    let v = l.setting.vocabulary.now in
    let k = l.setting.known.now in
    let left = map definition_view (drop l.one-index l.all) in
    Same (l.count + sum_by (open_in_definition v k) left) (sum_by (open_in_definition v k) (map definition_view l.all))
    × (l.count ≡ capped l.count) × AllByRecursion (λ (d : DefinitionTree). AllByRecursion (BodyFits k) d.rules) left
