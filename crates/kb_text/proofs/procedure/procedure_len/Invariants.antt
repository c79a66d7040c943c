use Rattle.std.proofs.Common.{◌-◌, length}
use Rattle.kb_text.proofs.Passages.{Reaches}
use Rattle.kb_text.proofs.procedure.procedure_len.Given as goal

abbrev pub invariant-loop-i : goal.invariant-loop-i
invariant-loop-i l = Reaches l.bytes l.braces l.i

abbrev pub decreases-loop-i : goal.decreases-loop-i
decreases-loop-i l = length l.bytes - l.i
