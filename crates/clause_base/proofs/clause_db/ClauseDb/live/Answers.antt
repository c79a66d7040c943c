use Rattle.std.proofs.Common.{◌≡◌, Some, subst, slice_get, sym}
use Rattle.clause_base.specs.ClauseDbState.{ClauseDbState}
use Rattle.clause_base.specs.declared.clause_db.ClauseDb.TheInside.{Inside}
use Rattle.clause_base.proofs.ArenaFacts.{removed-held}
use Rattle.clause_base.proofs.clause_db.ClauseDb.live.Goals as goal

pub returns-clause-removed : goal.returns-clause-removed
returns-clause-removed c id d le h =
    let a : Inside = c.self.inside in
    removed-held a.lits.items a.entries.items a.live c.self.invariant.removed id d le
    (subst (λ (s : ClauseDbState). slice_get s.clauses id ≡ Some (Some d)) (sym c.self.view_is) h)
