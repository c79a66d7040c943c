use Rattle.std.proofs.Common.{◌≡◌, refl}
use Rattle.std.proofs.lemmas.Result.{on_ok_weaker}
use Rattle.search_engine.specs.declared.engine.Engine.{Engine}
use Rattle.kept_problem.specs.Joining.{joined_problem}
use Rattle.search_engine.proofs.GrowFacts.{resting-joined}
use Rattle.search_engine.proofs.engine.Engine.hold.Goals as goal

pub returns-clause-resting : goal.returns-clause-resting
returns-clause-resting c =
    let e : Engine = c.args.self.now in
    let f : Engine = record {
      alloc = e.alloc;
      problem = c.join.new.self;
      store = c.push_problem.new.store;
      learnt = e.learnt;
      ids = e.ids;
      passing = e.passing;
      moments = e.moments;
      decider = e.decider;
      ledger = e.ledger;
      log = e.log;
      searches = e.searches;
      known = e.known;
      conflicts = e.conflicts;
      root_conflicts = e.root_conflicts;
      assumed = e.assumed;
      closed = e.closed;
      base = e.base;
    } in
    let joined = λ (is : c.join.new.self ≡ joined_problem e.problem c.args.more.now). resting-joined e f c.args.more.now
    c.requires.resting c.requires.cleared c.requires.can c.requires.bounds c.requires.laws
    c.in_ok-push_problem.ensures.ok c.push_problem.ensures.trail c.push_problem.ensures.laws c.requires.sized refl
    refl refl refl refl refl is in
    on_ok_weaker c.join.result joined c.join.ensures.ok
