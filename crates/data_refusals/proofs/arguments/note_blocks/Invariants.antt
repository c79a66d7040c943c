use Rattle.std.proofs.Common.{◌≡◌, List, drop, fold, map}
use Rattle.std.specs.Prelude.{zip, flat_map}
use Rattle.kb_logic.specs.declared.vocabularies.TypeDecl.{TypeDecl}
use Rattle.stage_definitions.specs.DataEntries.{Said}
use Rattle.stage_definitions.specs.DataStage as stage
use Rattle.data_domains.specs.TypeSets.{AreTypesOf}
use Rattle.type_derivation.specs.TypedViews.{named_term_view}
use Rattle.data_refusals.proofs.arguments.note_blocks.Given as goal

abbrev pub invariant-loop-i : goal.invariant-loop-i
invariant-loop-i l = (all : List TypeDecl) (es : List Said) → AreTypesOf all es l.types
    → fold (stage.data_noted all es) l.earliest.first (map stage.argument
    (flat_map (stage.arguments_of_block l.kb.vocab.symbols) (zip (map named_term_view (drop l.i l.kb.terms))
    (drop l.i l.kb.places.block_terms))))
    ≡ fold (stage.data_noted all es) l.fn.earliest.first (map stage.argument
    (flat_map (stage.arguments_of_block l.kb.vocab.symbols) (zip (map named_term_view l.kb.terms)
    l.kb.places.block_terms)))
