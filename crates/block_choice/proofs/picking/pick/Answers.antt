use Rattle.std.proofs.Common.{◌≡◌, None, Some, fold, sym, ◌∙◌}
use Rattle.stage_definitions.specs.BlocksStage.{block_noted, block_uses}
use Rattle.stage_definitions.specs.FileView.{file_in}
use Rattle.block_choice.specs.Choices.{word_given}
use Rattle.stage_definitions.proofs.BlockRows.{earliest_refused, picked_blocks}
use Rattle.block_choice.proofs.picking.pick.Goals as goal

pub returns-in-None-clause-ok : goal.returns-in-None-clause-ok
returns-in-None-clause-ok c =
    let noted : fold block_noted None (block_uses (file_in c.args.raw.now) (word_given c.args.theory)
    (word_given c.args.structure)) ≡ None =
    rw (c.new-earliest.ensures, c.bytes_in-theory.ensures, c.bytes_in-structure.ensures) at
    (sym c.choose_blocks-picked.ensures.noted ∙ c.in-None.is) in
    picked_blocks (file_in c.args.raw.now) (word_given c.args.theory) (word_given c.args.structure) _ _ noted
    (rw c.bytes_in-theory.ensures at c.choose_blocks-picked.ensures.theory)
    (rw c.bytes_in-structure.ensures at c.choose_blocks-picked.ensures.structure)

pub returns-clause-err : goal.returns-clause-err
returns-clause-err c =
    let noted : fold block_noted None (block_uses (file_in c.args.raw.now) (word_given c.args.theory)
    (word_given c.args.structure)) ≡ Some c.in-Some.fault =
    rw (c.new-earliest.ensures, c.bytes_in-theory.ensures, c.bytes_in-structure.ensures) at
    (sym c.choose_blocks-picked.ensures.noted ∙ c.in-Some.is) in
    earliest_refused (block_uses (file_in c.args.raw.now) (word_given c.args.theory) (word_given c.args.structure))
    c.in-Some.fault noted
