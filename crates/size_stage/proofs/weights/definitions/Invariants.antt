use Rattle.std.proofs.Common.{◌≡◌, ◌+◌, drop, map}
use Rattle.std.specs.Prelude.{sum_by}
use Rattle.kb_logic.specs.Views.{definition_view}
use Rattle.kb_logic.specs.Weights.{definition_occurrences}
use Rattle.stage_definitions.specs.SizesStage.{capped}
use Rattle.size_stage.proofs.Capping.{Same}
use Rattle.size_stage.proofs.weights.definitions.Given as goal

abbrev pub invariant-loop-one : goal.invariant-loop-one
invariant-loop-one l = Same (l.count + sum_by (definition_occurrences l.vocab l.domains)
    (map definition_view (drop l.one-index l.all))) (sum_by (definition_occurrences l.vocab l.domains)
    (map definition_view l.all)) × (l.count ≡ capped l.count)
