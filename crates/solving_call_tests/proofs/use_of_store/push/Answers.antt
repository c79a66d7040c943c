use Rattle.std.proofs.Common.{◌++◌, ◌∷◌, [], Some, List, refl, sym, ap, ◌∙◌, subst, slice_get}
use Rattle.lit_core.specs.declared.literals.Lit.{Lit}
use Rattle.clause_store.specs.StoreState.{StoreState, IsHeld, with_clause}
use Rattle.clause_store.proofs.ListFacts.{slice_get-push_new}
use Rattle.solving_call_tests.proofs.use_of_store.push.Goals as goal

pub push_clause-requires-clause-unopposed : goal.push_clause-requires-clause-unopposed
push_clause-requires-clause-unopposed c = c.if-not-may_push.ensures.unopposed refl

pub lend-requires : goal.lend-requires
lend-requires c =
    let s : StoreState = c.args.store.now in
    let ok = c.in_ok-id.ensures.ok in
    let d : List Lit = ok.1.0 in
    let here : IsHeld (with_clause s d) c.in_ok-id.id d = ap (slice_get (s.clauses ++ Some d ∷ [])) ok.0
    ∙ slice_get-push_new s.clauses (Some d) in
    (d, subst (λ (x : StoreState). IsHeld x c.in_ok-id.id d) (sym ok.1.2) here)
