use Rattle.std.proofs.Common.{◌+◌, ℕ, None, ap, arith}
use Rattle.ground_core.specs.Problems.{ProblemState}
use Rattle.search_engine.specs.Potential.{implied_of, progress}
use Rattle.search_engine.specs.declared.engine.Engine.{Engine}
use Rattle.search_engine.specs.Searching.{AdvanceGives, paid_of}
use Rattle.search_engine.proofs.Standing.{further-smaller, goal-itself, lower-ahead}
use Rattle.search_engine.proofs.SearchFacts.{continues-trans}
use Rattle.search_engine.proofs.engine.Engine.search.Goals as goal

pub loop-verdict-smaller : goal.loop-verdict-smaller
loop-verdict-smaller g c =
    let e : Engine = c.loop-verdict.self in
    let f : Engine = c.step.new.self in
    let gives : AdvanceGives c.args.assume.now e f None = rw c.in-None.is at c.in_ok-verdict.ensures.answer in
    let p : ℕ = progress e.problem.vars (implied_of e.store.trail.steps) in
    further-smaller e.problem.vars f.problem.vars (implied_of e.store.trail.steps) (implied_of f.store.trail.steps)
    (paid_of f) (ap (λ (q : ProblemState). q.vars) c.step.ensures.same.problem)
    (gives.1 p (goal-itself e.problem.vars (implied_of e.store.trail.steps)
    (paid_of e) c.loop-verdict.invariant.ahead))

pub returns-in_err-verdict-clause-same : goal.returns-in_err-verdict-clause-same
returns-in_err-verdict-clause-same g c = continues-trans c.args.self.now c.loop-verdict.self c.step.new.self
    c.loop-verdict.invariant.same c.step.ensures.same

pub returns-in-Some-clause-same : goal.returns-in-Some-clause-same
returns-in-Some-clause-same g c = continues-trans c.args.self.now c.loop-verdict.self c.step.new.self
    c.loop-verdict.invariant.same c.step.ensures.same

pub loop-verdict-preserved : goal.loop-verdict-preserved
loop-verdict-preserved g c =
    let e : Engine = c.loop-verdict.self in
    let f : Engine = c.step.new.self in
    let gives : AdvanceGives c.args.assume.now e f None = rw c.in-None.is at c.in_ok-verdict.ensures.answer in
    record {
      search = c.step.ensures.search;
      same = continues-trans c.args.self.now e f c.loop-verdict.invariant.same c.step.ensures.same;
      unrefuted = gives.0;
      ahead = lower-ahead f.problem.vars (implied_of f.store.trail.steps) (paid_of f) 0 (0 + 1) (omega arith)
          (gives.1 0 c.loop-verdict.invariant.ahead);
      turn = c.step.ensures.turn;
      room = c.step.ensures.room;
    }
