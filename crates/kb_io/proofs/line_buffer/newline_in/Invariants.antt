use Rattle.std.proofs.Common.{◌≡◌, take}
use Rattle.kb_io.specs.Lines.{newlines}
use Rattle.kb_io.proofs.line_buffer.newline_in.Given as goal

abbrev pub invariant-loop-i : goal.invariant-loop-i
invariant-loop-i l = newlines (take l.i l.bytes) ≡ 0
