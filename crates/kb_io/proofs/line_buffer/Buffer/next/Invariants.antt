use Rattle.std.proofs.Common.{◌≡◌, ◌+◌, ◌-◌, ◌<◌}
use Rattle.kb_io.specs.Lines.{newlines}
use Rattle.kb_io.specs.Pending.{most_bytes}
use Rattle.kb_io.specs.Buffer.{IsSound, pending}
use Rattle.kb_io.proofs.Reading.{Reads}
use Rattle.kb_io.proofs.line_buffer.Buffer.next.Given as goal

abbrev pub invariant-loop-next : goal.invariant-loop-next
invariant-loop-next g l = record {
  sound : IsSound l.self;
  reads : Reads l.initial.self l.self (g.S.Source.left l.initial.src) (g.S.Source.left l.src);
  faults : g.S.Source.faults l.src ≡ g.S.Source.faults l.initial.src;
  still : 0 < newlines (pending l.initial.self).ahead → l.src ≡ l.initial.src;
}

abbrev pub decreases-loop-next : goal.decreases-loop-next
decreases-loop-next g l = most_bytes + 1 - l.self.taken
