use Rattle.std.proofs.Common.{◌≡◌, ◌+◌, drop}
use Rattle.std.specs.List.{sum_by}
use Rattle.stage_definitions.specs.SizesStage.{capped}
use Rattle.size_stage.proofs.Capping.{Same}
use Rattle.open_sizes.specs.OpenWeights.{where_open}
use Rattle.open_sizes.proofs.atoms.unknown_among.Given as goal

abbrev pub invariant-loop-truth : goal.invariant-loop-truth
invariant-loop-truth l =
    Same (l.count + sum_by (λ t. where_open t 1) (drop l.truth-index l.truths)) (sum_by (λ t. where_open t 1) l.truths)
    × (l.count ≡ capped l.count)
