use Rattle.std.proofs.Common.{◌≡◌, ◌-◌, length}
use Rattle.search_engine.specs.Resting.{IsResting, KeepsProblem}
use Rattle.search_engine.proofs.engine.Engine.close_retired.Given as goal

abbrev pub invariant-loop-self : goal.invariant-loop-self
invariant-loop-self l = record {
  resting : IsResting l.self;
  same : KeepsProblem l.fn.self l.self;
  log : l.self.log ≡ l.fn.self.log;
}

abbrev pub decreases-loop-self : goal.decreases-loop-self
decreases-loop-self l = length l.self.problem.retired - l.self.closed
