use Rattle.std.proofs.Common.{◌≡◌, drop, map, fold}
use Rattle.std.specs.Prelude.{zip, flat_map}
use Rattle.type_derivation.specs.TypedViews.{named_term_view}
use Rattle.stage_definitions.specs.SizesStage.{size_noted, uses_of_block}
use Rattle.size_stage.proofs.notes.note_blocks.Given as goal

abbrev pub invariant-loop-i : goal.invariant-loop-i
invariant-loop-i l =
    fold size_noted l.earliest.first (flat_map (uses_of_block l.kb.vocab l.domains)
    (zip (map named_term_view (drop l.i l.kb.terms)) (drop l.i l.kb.places.block_terms)))
    ≡ fold size_noted l.fn.earliest.first (flat_map (uses_of_block l.kb.vocab l.domains)
    (zip (map named_term_view l.kb.terms) l.kb.places.block_terms))
