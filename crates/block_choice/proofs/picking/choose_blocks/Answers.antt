use Rattle.block_choice.specs.Choices.{word_given}
use Rattle.stage_definitions.proofs.Headers.{chosen_theory, noted_blocks}
use Rattle.block_choice.proofs.picking.choose_blocks.Goals as goal

pub returns-clause-theory : goal.returns-clause-theory
returns-clause-theory c =
    chosen_theory c.args.raw.now (word_given c.args.theory) c.as_slice-4.result.now c.choose-theory.result
    c.as_slice-4.ensures c.choose-theory.ensures.number

pub returns-clause-noted : goal.returns-clause-noted
returns-clause-noted c =
    noted_blocks c.args.raw.now (word_given c.args.theory) (word_given c.args.structure) c.args.earliest.now.first
    c.note_all_headers.new.earliest.first c.note_further_vocabularies.new.earliest.first
    c.note_unless_named.new.earliest.first c.note_unless_named-2.new.earliest.first
    c.note_no_vocabulary.new.earliest.first c.choose-theory.new.earliest.first c.choose-structure.new.earliest.first
    c.as_slice.result.now c.as_slice-2.result.now c.as_slice-4.result.now c.as_slice-3.result.now
    c.as_slice-5.result.now
    c.as_slice.ensures c.as_slice-2.ensures c.as_slice-4.ensures c.as_slice-3.ensures c.as_slice-5.ensures
    c.note_all_headers.ensures c.note_further_vocabularies.ensures c.note_unless_named.ensures
    c.note_unless_named-2.ensures c.note_no_vocabulary.ensures
    c.choose-theory.ensures.noted c.choose-structure.ensures.noted
