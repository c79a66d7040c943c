use Rattle.std.proofs.Common.{◌≡◌, ◌+◌, ◌-◌, length}
use Rattle.std.specs.Bool.{OnFalse}
use Rattle.kb_io.specs.Pending.{most_bytes}
use Rattle.consult_base.specs.Opened.{base_of}
use Rattle.consult_text.specs.States.{first_state}
use Rattle.consultation.specs.Accepted.{IsUpTo, KeepsSteps}
use Rattle.consultation.specs.Streams.{streams}
use Rattle.consultation.proofs.Ending.{IsSoFar}
use Rattle.consultation.proofs.consultant.Consultant.answer_all.Given as goal

abbrev pub invariant-loop : goal.invariant-loop
invariant-loop g l = record {
  kb : l.self.kb ≡ l.initial.self.kb;
  logs : l.self.logs ≡ l.initial.self.logs;
  none : OnFalse l.initial.self.logs (l.log ≡ l.initial.log);
  so_far : IsSoFar l.initial.self.logs (base_of l.initial.self.kb) (first_state l.initial.self.state.budget)
      l.self.state l.self.number l.self.lines
      (streams (g.C.Source.left l.initial.commands) (g.C.Source.faults l.initial.commands)
      (g.W.Sink.holds l.initial.out) (g.W.Sink.faults l.initial.out)
      (g.L.Sink.holds l.initial.log) (g.L.Sink.faults l.initial.log))
      (streams (g.C.Source.left l.commands) (g.C.Source.faults l.commands) (g.W.Sink.holds l.out)
      (g.W.Sink.faults l.out) (g.L.Sink.holds l.log) (g.L.Sink.faults l.log));
  over : IsUpTo (base_of l.initial.self.kb) l.self.number l.self.checker;
  steps : KeepsSteps l.self.number l.initial.self.checker l.self.checker (g.L.Sink.holds l.initial.log)
      (g.L.Sink.holds l.log);
}

-- what may still be taken, and what is ahead
abbrev pub decreases-loop : goal.decreases-loop
decreases-loop g l = most_bytes + length l.self.lines.ahead - l.self.lines.taken
