use Rattle.std.proofs.Common.{sym, subst}
use Rattle.sum_ledger.specs.Asking.{IsImplied}
use Rattle.search_engine.specs.declared.engine.Engine.{Engine}
use Rattle.search_engine.proofs.SumFacts.{at-place, some-length}
use Rattle.search_engine.proofs.engine.Engine.follow_first.Goals as goal

pub clause-requires : goal.clause-requires
clause-requires c = some-length c.args.clauses.now c.requires.some

pub follow_by-requires-clause-implied : goal.follow_by-requires-clause-implied
follow_by-requires-clause-implied c =
    let e : Engine = c.args.self.now in
    subst (IsImplied e.problem.sums e.store.trail.values) (sym c.as_slice.ensures)
    (at-place (IsImplied e.problem.sums e.store.trail.values) c.args.clauses.now 0 c.in_ok-first.first
    c.requires.implied c.in_ok-first.ensures)
