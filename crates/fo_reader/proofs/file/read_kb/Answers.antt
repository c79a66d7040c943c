use Rattle.std.proofs.Common.{arith}
use Rattle.grammar.specs.FileReads.{too_long}
use Rattle.fo_reader.proofs.InFile.{file_answered, file_refused_early}
use Rattle.fo_reader.proofs.file.read_kb.Goals as goal

pub returns-then-src-gt-LONGEST : goal.returns-then-src-gt-LONGEST
returns-then-src-gt-LONGEST c = too_long (omega (arith, c.if-src-gt-LONGEST.true))

pub returns-in-Ok : goal.returns-in-Ok
returns-in-Ok c =
    let p = rw c.deref.ensures.value at c.file.ensures in
    file_answered c.args.src.now _ c.file.result (omega (arith, c.if-src-gt-LONGEST.false)) c.in-Ok.ensures p

pub returns-in-Err : goal.returns-in-Err
returns-in-Err c = file_refused_early c.args.src.now c.in-Err.e (omega (arith, c.if-src-gt-LONGEST.false))
    c.in-Err.ensures
