use Rattle.std.proofs.Common.{sym, subst}
use Rattle.clause_base.specs.ShortState.{ShortState, IsPacked}
use Rattle.clause_base.specs.ShortFields.{lists_of, state_of}
use Rattle.clause_base.proofs.ShortFacts.{packed-longer}
use Rattle.clause_base.proofs.short_clauses.ShortClauses.add_lists.Goals as goal

pub returns-clause-kept : goal.returns-clause-kept
returns-clause-kept c clauses vars h =
    packed-longer clauses vars (state_of c.self.inside) (lists_of c.add_empty.new.lists)
    (subst (λ (s : ShortState). IsPacked clauses vars s) (sym c.self.view_is) h) c.add_empty.ensures.kept
