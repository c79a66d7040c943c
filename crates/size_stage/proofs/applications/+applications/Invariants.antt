use Rattle.std.proofs.Common.{◌≡◌, ◌*◌, drop, map}
use Rattle.kb_logic.specs.Trees.{summands_of, terms_of}
use Rattle.kb_logic.specs.Views.{signed_view, term_view}
use Rattle.kb_logic.specs.Weights.{applications_count, summands_count}
use Rattle.stage_definitions.specs.SizesStage.{capped}
use Rattle.size_stage.proofs.Capping.{Same}
use Rattle.size_stage.proofs.applications.+applications.Given as goal

abbrev pub invariant-in_summands-loop-part : goal.invariant-in_summands-loop-part
invariant-in_summands-loop-part l =
    Same (l.count * summands_count l.vocab l.domains (summands_of (map signed_view (drop l.part-index l.parts))))
    (summands_count l.vocab l.domains (summands_of (map signed_view l.parts)))
    × (l.count ≡ capped l.count)

abbrev pub invariant-in_terms-loop-term : goal.invariant-in_terms-loop-term
invariant-in_terms-loop-term l =
    Same (l.count * applications_count l.vocab l.domains (terms_of (map term_view (drop l.term-index l.terms))))
    (applications_count l.vocab l.domains (terms_of (map term_view l.terms)))
    × (l.count ≡ capped l.count)
