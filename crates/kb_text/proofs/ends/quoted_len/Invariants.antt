use Rattle.std.proofs.Common.{◌≡◌, ◌-◌, ◌≤◌, drop, length, false}
use Rattle.kb_text.specs.Ends.{later_by, quoted_of}
use Rattle.kb_text.proofs.ends.quoted_len.Given as goal

abbrev pub invariant-loop-i : goal.invariant-loop-i
invariant-loop-i l = record {
  within : l.i ≤ length l.bytes;
  rest : later_by l.i (quoted_of l.escaped l.quote (drop l.i l.bytes)) ≡ quoted_of false l.quote l.bytes;
}

abbrev pub decreases-loop-i : goal.decreases-loop-i
decreases-loop-i l = length l.bytes - l.i
