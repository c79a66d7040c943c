use Rattle.std.proofs.Common.{◌≡◌, [], ◌∷◌, ◌++◌, Some, refl, ap, ◌∙◌}
use Rattle.clause_store.specs.StoreState.{StoreState}
use Rattle.search_engine.specs.declared.engine.Engine.{Engine}
use Rattle.search_engine.proofs.GrowFacts.{resting-same, resting-selected, same-itself}
use Rattle.search_engine.proofs.engine.Engine.hold_last.Goals as goal

pub returns-in_err-add_selected-clause-resting : goal.returns-in_err-add_selected-clause-resting
returns-in_err-add_selected-clause-resting c =
    let e : Engine = c.args.self.now in
    resting-same e _ c.requires.resting (record {
      same = same-itself e _ refl refl refl refl refl;
      ids = refl;
      closed =
          refl;
    }) c.in_err-add_selected.ensures.err (ap (λ (s : StoreState). s.clauses) c.in_ok-reserve_clause.ensures.ok)
    (ap (λ (s : StoreState). s.trail) c.in_ok-reserve_clause.ensures.ok) c.reserve_clause.ensures.laws

pub returns-clause-resting : goal.returns-clause-resting
returns-clause-resting c =
    let e : Engine = c.args.self.now in
    let w = c.in-Ok.ensures.ok in
    let spare = c.in_ok-reserve_clause.ensures.ok in
    let clauses : c.push_clause.new.self.clauses ≡ e.store.clauses ++ Some w.1.0 ∷ [] =
    ap (λ (s : StoreState). s.clauses) w.1.2 ∙ ap (λ (s : StoreState). s.clauses ++ Some w.1.0 ∷ []) spare in
    let trail : c.push_clause.new.self.trail ≡ e.store.trail = ap (λ (s : StoreState). s.trail) w.1.2
    ∙ ap (λ (s : StoreState). s.trail) spare in
    resting-selected e _ c.args.clause.now w.1.0 c.requires.resting
    (record { same = same-itself e _ refl refl refl refl refl; ids = refl; closed = refl }) c.requires.lits w.1.1
    clauses trail c.push_clause.ensures.laws c.requires.sized c.in_ok-add_selected.ensures.ok
