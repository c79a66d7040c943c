use Rattle.std.proofs.Common.{◌≡◌, ◌+◌, drop, map}
use Rattle.std.specs.Prelude.{sum_by}
use Rattle.kb_logic.specs.Views.{rule_view}
use Rattle.kb_logic.specs.Weights.{rule_occurrences}
use Rattle.stage_definitions.specs.SizesStage.{capped}
use Rattle.size_stage.proofs.Capping.{Same}
use Rattle.size_stage.proofs.weights.rules.Given as goal

abbrev pub invariant-loop-one : goal.invariant-loop-one
invariant-loop-one l = Same (l.count + sum_by (rule_occurrences l.vocab l.domains)
    (map rule_view (drop l.one-index l.all))) (sum_by (rule_occurrences l.vocab l.domains) (map rule_view l.all))
    × (l.count ≡ capped l.count)
