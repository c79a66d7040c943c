use Rattle.std.proofs.Common.{◌≡◌, ◌-◌, ◌^◌}
use Rattle.search_engine.specs.Potential.{implied_of, progress}
use Rattle.search_engine.specs.Searching.{AheadAt, Continues, HasRoom, IsSearch, IsTurn}
use Rattle.search_engine.proofs.engine.Engine.search.Given as goal

-- the conflicts so far are paid
abbrev pub invariant-loop-verdict : goal.invariant-loop-verdict
invariant-loop-verdict g l = record {
  search : IsSearch l.self;
  same : Continues l.fn.self l.self;
  unrefuted : l.self.root_conflicts ≡ 0;
  ahead : AheadAt l.self 0;
  turn : IsTurn l.assume l.self;
  room : HasRoom l.most l.self;
}

abbrev pub decreases-loop-verdict : goal.decreases-loop-verdict
decreases-loop-verdict g l = 3 ^ l.self.problem.vars - progress l.self.problem.vars
    (implied_of l.self.store.trail.steps)
