use Rattle.std.proofs.Common.{sym, subst, All}
use Rattle.lit_core.specs.Literals.{negated}
use Rattle.clause_base.specs.StoreState.{StoreState}
use Rattle.clause_base.specs.TrailLaws.{IsFixed}
use Rattle.clause_store.proofs.store.Store.push_clause.Goals as goal

pub push_clause-requires-clause-unopposed : goal.push_clause-requires-clause-unopposed
push_clause-requires-clause-unopposed c = subst (λ (s : StoreState). All (λ l. IsFixed s.trail (negated l)
    → ⊥) c.args.lits.now) (sym c.self.view_is) c.requires.unopposed
