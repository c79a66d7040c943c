use Rattle.stage_definitions.specs.DataStage as stage
use Rattle.std.specs.Prelude.{flat_map, zip}
use Rattle.type_derivation.specs.TypedViews.{typed_view}
use Rattle.data_refusals.proofs.Noting.{both_lists}
use Rattle.data_refusals.proofs.arguments.note_arguments.Goals as goal

pub returns : goal.returns
returns c = λ all es h.
    let f = typed_view c.args.kb.now in
    both_lists (stage.data_noted all es) (flat_map (stage.arguments_of_theory f.vocabulary.symbols)
    (stage.chosen_theory f c.args.theory)) (flat_map (stage.arguments_of_block f.vocabulary.symbols)
    (zip f.terms f.places.block_terms)) c.args.earliest.now.first c.note_theory.new.earliest.first _
    (c.in_ok-note_theory.ensures all es h) (c.in_ok-note_blocks.ensures all es h)
