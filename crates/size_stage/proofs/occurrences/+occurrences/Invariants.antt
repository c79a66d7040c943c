use Rattle.std.proofs.Common.{◌≡◌, ◌+◌, drop, map}
use Rattle.kb_logic.specs.Trees.{formulas_of, summands_of, terms_of}
use Rattle.kb_logic.specs.Views.{formula_view, signed_view, term_view}
use Rattle.kb_logic.specs.Weights.{all_occurrences, summands_occurrences, terms_occurrences}
use Rattle.stage_definitions.specs.SizesStage.{capped}
use Rattle.size_stage.proofs.Capping.{Same}
use Rattle.size_stage.proofs.occurrences.+occurrences.Given as goal

abbrev pub invariant-formulas-loop-one : goal.invariant-formulas-loop-one
invariant-formulas-loop-one l =
    Same (l.count + all_occurrences l.vocab l.domains (formulas_of (map formula_view (drop l.one-index l.all))) l.n)
    (all_occurrences l.vocab l.domains (formulas_of (map formula_view l.all)) l.n)
    × (l.count ≡ capped l.count)

abbrev pub invariant-summands-loop-part : goal.invariant-summands-loop-part
invariant-summands-loop-part l =
    Same (l.count + summands_occurrences l.vocab l.domains (summands_of (map signed_view (drop l.part-index l.parts)))
    l.n) (summands_occurrences l.vocab l.domains (summands_of (map signed_view l.parts)) l.n)
    × (l.count ≡ capped l.count)

abbrev pub invariant-terms-loop-one : goal.invariant-terms-loop-one
invariant-terms-loop-one l =
    Same (l.count + terms_occurrences l.vocab l.domains (terms_of (map term_view (drop l.one-index l.all))) l.n)
    (terms_occurrences l.vocab l.domains (terms_of (map term_view l.all)) l.n)
    × (l.count ≡ capped l.count)
