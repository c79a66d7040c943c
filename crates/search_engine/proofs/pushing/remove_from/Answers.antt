use Rattle.std.proofs.Common.{ap, ◌∙◌, arith}
use Rattle.clause_store.specs.StoreState.{StoreState}
use Rattle.search_engine.proofs.Pushed.{removes-one, removes-all}
use Rattle.search_engine.proofs.pushing.remove_from.Goals as goal

pub loop-id-preserved : goal.loop-id-preserved
loop-id-preserved c = record {
  trail = ap (λ (s : StoreState). s.trail) c.remove.ensures.removed ∙ c.loop-id.invariant.trail;
  removed = removes-one c.args.first c.loop-id.id c.args.store.now.clauses c.loop-id.store.clauses
      c.remove.new.self.clauses c.loop-id.auto.id (let same = c.loop-id.invariant.removed.size in let end =
      c.len-id-end.ensures in let test = c.loop-id-test.true in omega arith)
      (ap (λ (s : StoreState). s.clauses) c.remove.ensures.removed) c.loop-id.invariant.removed;
  laws = c.remove.ensures.laws;
}

pub returns-clause-removed : goal.returns-clause-removed
returns-clause-removed c =
    removes-all c.args.first c.loop-id.id c.args.store.now.clauses c.loop-id.store.clauses (let end =
    c.len-id-end.ensures in let test = c.loop-id-test.false in omega arith) c.loop-id.invariant.removed
