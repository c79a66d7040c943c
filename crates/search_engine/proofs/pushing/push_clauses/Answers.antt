use Rattle.std.proofs.Common.{◌≡◌, ◌<◌, ◌∷◌, [], ◌++◌, Some, Option, List, length, take, sym, ap, ◌∙◌, subst, arith}
use Rattle.std.proofs.lemmas.Option.{get_or_from_slice_get}
use Rattle.lit_core.specs.declared.literals.Lit.{Lit}
use Rattle.clause_store.specs.StoreState.{StoreState, IsEachOnceOf}
use Rattle.search_engine.specs.Knowledge.{Pushes}
use Rattle.search_engine.proofs.Pushed.{pushes-one, take-read}
use Rattle.search_engine.proofs.pushing.push_clauses.Goals as goal

pub loop-place-preserved : goal.loop-place-preserved
loop-place-preserved c =
    let w = c.in_ok-push_clause.ensures.ok in
    let at = c.loop-place.place in
    let old : List (Option (List Lit)) = c.args.store.now.clauses in
    let mid : List (Option (List Lit)) = c.loop-place.store.clauses in
    let clauses : c.push_clause.new.self.clauses ≡ mid ++ Some w.1.0 ∷ [] = ap (λ (s : StoreState). s.clauses) w.1.2 in
    let front : List (List Lit) = take at c.args.clauses.now in
    let lt : at < length c.args.clauses.now = omega (arith, c.loop-place-test.true, c.len-place-end.ensures) in
    let lits : List Lit = c.unpack_clause.new.buffer.items in
    let next = take-read c.args.clauses.now at lits lt
    (sym (get_or_from_slice_get c.args.clauses.now at lits lits c.in_ok-unpack_clause.ensures)) in
    let once : IsEachOnceOf lits w.1.0 = subst (λ (ls : List Lit). IsEachOnceOf ls w.1.0)
    c.as_slice.ensures.value w.1.1 in
    let pushed : Pushes old (mid ++ Some w.1.0 ∷ []) (front ++ lits ∷ []) =
    pushes-one old mid front lits w.1.0 c.loop-place.invariant.pushed once in
    record {
      trail = ap (λ (s : StoreState). s.trail) w.1.2 ∙ c.loop-place.invariant.trail;
      within = omega (arith, lt);
      pushed = rw (clauses, next) pushed;
      laws = c.push_clause.ensures.laws;
    }
