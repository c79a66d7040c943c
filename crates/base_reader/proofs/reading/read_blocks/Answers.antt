use Rattle.base_reader.specs.Readings.{choice}
use Rattle.base_reader.proofs.Stages.{text_fails, choice_fails}
use Rattle.base_reader.proofs.reading.read_blocks.Goals as goal

pub returns-in-Err-clause-err : goal.returns-in-Err-clause-err
returns-in-Err-clause-err c =
    text_fails (choice c.args.theory c.args.structure) c.args.bytes.now c.in-Err.e c.in-Err.ensures

pub returns-in-Err-pick-clause-err : goal.returns-in-Err-pick-clause-err
returns-in-Err-pick-clause-err c =
    choice_fails c.files_are_their_blocks.ensures (choice c.args.theory c.args.structure) c.args.bytes.now c.in-Ok.raw
    c.in-Err-pick.e c.in-Ok.ensures c.in-Err-pick.ensures.err
