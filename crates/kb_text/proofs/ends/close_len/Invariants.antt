use Rattle.std.proofs.Common.{◌≡◌, ◌-◌, ◌≤◌, drop, length}
use Rattle.kb_text.specs.Ends.{later_by, close_of}
use Rattle.kb_text.proofs.ends.close_len.Given as goal

abbrev pub invariant-loop-i : goal.invariant-loop-i
invariant-loop-i l = record {
  within : l.i ≤ length l.bytes;
  rest : later_by l.i (close_of l.first l.second (drop l.i l.bytes)) ≡ close_of l.first l.second l.bytes;
}

abbrev pub decreases-loop-i : goal.decreases-loop-i
decreases-loop-i l = length l.bytes - l.i
