use Rattle.std.proofs.Common.{◌<◌, length, sym, subst}
use Rattle.clause_base.specs.ShortState.{ShortState, IsPacked}
use Rattle.clause_base.specs.ShortFields.{lists_of, state_of}
use Rattle.clause_base.proofs.ShortFacts.{packed-grows, packed-listed, packed-next}
use Rattle.clause_base.proofs.short_clauses.ShortClauses.pack_next.Goals as goal

pub returns-in_default-clause-kept : goal.returns-in_default-clause-kept
returns-in_default-clause-kept c vars h below =
    let cs = c.args.held.now.clauses in
    packed-next cs vars (state_of c.self.inside)
    (subst (λ (s : ShortState). s.packed < length cs) (sym c.self.view_is) c.requires.within)
    (λ d held short. absurd (c.in_default.ensures d held short))
    (subst (λ (s : ShortState). IsPacked cs vars s) (sym c.self.view_is) h)

pub returns-in_err-add_clause-clause-kept : goal.returns-in_err-add_clause-clause-kept
returns-in_err-add_clause-clause-kept c vars h below =
    let cs = c.args.held.now.clauses in
    packed-grows cs vars c.self.inside.packed c.in-Some.lits.now (state_of c.self.inside)
    (lists_of c.add_clause.new.lists) c.in-Some.ensures.0 c.in-Some.ensures.1 below c.in_err-add_clause.ensures.grows
    (subst (λ (s : ShortState). IsPacked cs vars s) (sym c.self.view_is) h)

pub returns-clause-kept : goal.returns-clause-kept
returns-clause-kept c vars h below =
    let cs = c.args.held.now.clauses in
    packed-listed cs vars c.in-Some.lits.now (state_of c.self.inside) (lists_of c.add_clause.new.lists)
    c.in-Some.ensures.0 c.in-Some.ensures.1 below c.in_ok-add_clause.ensures.grows c.in_ok-add_clause.ensures.all
    (subst (λ (s : ShortState). IsPacked cs vars s) (sym c.self.view_is) h)
