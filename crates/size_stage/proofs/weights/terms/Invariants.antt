use Rattle.std.proofs.Common.{◌≡◌, ◌+◌, drop, map}
use Rattle.std.specs.Prelude.{sum_by}
use Rattle.kb_logic.specs.Weights.{asked_occurrences}
use Rattle.type_derivation.specs.TypedViews.{named_term_view}
use Rattle.stage_definitions.specs.SizesStage.{capped}
use Rattle.size_stage.proofs.Capping.{Same}
use Rattle.size_stage.proofs.weights.terms.Given as goal

abbrev pub invariant-loop-one : goal.invariant-loop-one
invariant-loop-one l =
    Same (l.count + sum_by (asked_occurrences l.vocab l.domains)
    (map (λ t. t.term) (map named_term_view (drop l.one-index l.all))))
    (sum_by (asked_occurrences l.vocab l.domains) (map (λ t. t.term) (map named_term_view l.all)))
    × (l.count ≡ capped l.count)
