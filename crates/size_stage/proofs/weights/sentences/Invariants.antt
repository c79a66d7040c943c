use Rattle.std.proofs.Common.{◌≡◌, ◌+◌, drop, map}
use Rattle.std.specs.Prelude.{sum_by}
use Rattle.kb_logic.specs.Views.{formula_view}
use Rattle.kb_logic.specs.Weights.{occurrences}
use Rattle.stage_definitions.specs.SizesStage.{capped}
use Rattle.size_stage.proofs.Capping.{Same}
use Rattle.size_stage.proofs.weights.sentences.Given as goal

abbrev pub invariant-loop-one : goal.invariant-loop-one
invariant-loop-one l = Same (l.count + sum_by (λ f. occurrences l.vocab l.domains f 1)
    (map formula_view (drop l.one-index l.all))) (sum_by (λ f. occurrences l.vocab l.domains f 1)
    (map formula_view l.all)) × (l.count ≡ capped l.count)
