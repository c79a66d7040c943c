use Rattle.std.proofs.Common.{◌≡◌, ◌+◌, ◌<◌, length, ap, subst, sym, arith}
use Rattle.ground_core.specs.Problems.{ProblemState}
use Rattle.search_engine.specs.declared.engine.Engine.{Engine}
use Rattle.search_engine.proofs.BoundFacts.{bounds-if-ok, resting-either, stays-if-err}
use Rattle.search_engine.proofs.engine.Engine.hold_bound.Goals as goal

pub returns-clause-resting : goal.returns-clause-resting
returns-clause-resting c =
    let m : Engine = c.make_room.new.self in
    let same : m.problem ≡ c.args.self.now.problem = c.make_room.ensures.reserves.problem in
    let lt : c.args.term < length m.problem.terms = subst (λ (p : ProblemState). c.args.term < length p.terms)
    (sym same) c.requires.term in
    let vars : m.problem.vars ≡ c.args.self.now.problem.vars = ap (λ (p : ProblemState). p.vars) same in
    let sized : m.problem.vars + 1 < length m.store.trail.values =
    omega (
      arith,
      c.in-Some.ensures,
      c.in-Some-checked_add.ensures,
      c.vars.ensures.value,
      vars,
      c.in_ok-make_room.ensures.ok,
    ) in
    resting-either m c.add_bound.new.self c.args.term c.args.below _ c.add_bound.result lt c.make_room.ensures.resting
    sized c.add_bound.ensures.ok c.add_bound.ensures.err

pub returns-clause-ok : goal.returns-clause-ok
returns-clause-ok c = bounds-if-ok c.make_room.new.self c.add_bound.new.self c.args.term c.args.below c.args.self.now
    c.make_room.ensures.reserves c.add_bound.result c.add_bound.ensures.ok

pub returns-clause-err : goal.returns-clause-err
returns-clause-err c = stays-if-err c.make_room.new.self c.add_bound.new.self c.args.term c.args.below c.args.self.now
    c.make_room.ensures.reserves c.add_bound.result c.add_bound.ensures.err
