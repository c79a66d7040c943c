use Rattle.std.proofs.Common.{◌≡◌, ◌<◌, ℕ, Bool, Option, Some, None, List, length, refl, sym, ap, ◌∙◌, subst}
use Rattle.std.proofs.lemmas.List.Elements.{All-contains}
use Rattle.std.proofs.lemmas.Option.{same_Some}
use Rattle.lit_core.specs.declared.literals.Lit.{Lit}
use Rattle.lit_core.specs.Literals.{value_in}
use Rattle.clause_store.specs.declared.trails.Step.{Step}
use Rattle.clause_store.specs.TrailLaws.{level_after}
use Rattle.clause_store.specs.StoreState.{StoreState, Implies}
use Rattle.search_engine.specs.declared.engine.Engine.{Engine}
use Rattle.search_engine.proofs.DecideFacts.{with_passing, with_store}
use Rattle.search_engine.proofs.Explained.{ahead-explained, explained-range, explained-unopposed, further-goes}
use Rattle.search_engine.proofs.Explained.{further-search, further-turn, search-explained, turn-explained}
use Rattle.search_engine.proofs.Explained.{unit-explained}
use Rattle.search_engine.proofs.SearchFacts.{search-spare}
use Rattle.search_engine.proofs.engine.Engine.force.Goals as goal

pub hold_passing-requires-clause-in_range : goal.hold_passing-requires-clause-in_range
hold_passing-requires-clause-in_range c = explained-range c.args.self.now c.requires.search c.args.clause.now
    c.requires.explained

pub hold_passing-requires-clause-unopposed : goal.hold_passing-requires-clause-unopposed
hold_passing-requires-clause-unopposed c = explained-unopposed c.args.self.now c.requires.search c.args.clause.now
    c.requires.explained

-- where there was no memory nothing changed
pub returns-in_err-id-clause-search : goal.returns-in_err-id-clause-search
returns-in_err-id-clause-search c = search-spare c.args.self.now _ refl refl refl refl c.in_err-id.ensures.same refl
    refl refl refl refl (ap (λ (s : StoreState). s.clauses) c.in_err-id.ensures.err)
    (ap (λ (s : StoreState). s.trail) c.in_err-id.ensures.err) c.hold_passing.ensures.laws c.requires.search

pub returns-in_err-id-clause-turn : goal.returns-in_err-id-clause-turn
returns-in_err-id-clause-turn c = λ assume t. record {
  decisions = rw c.in_err-id.ensures.err t.decisions;
  trues = rw c.in_err-id.ensures.err t.trues;
}

pub assign-requires-clause-in_range : goal.assign-requires-clause-in_range
assign-requires-clause-in_range c =
    let w = c.in_ok-id.ensures.ok.1 in
    let e : Engine = c.args.self.now in
    let same : c.hold_passing.new.store.trail.values ≡ e.store.trail.values = ap (λ (x : StoreState). x.trail.values) w.2 in
    subst (λ (xs : List (Option Bool)). c.args.lit.var.0 < length xs) (sym same)
    (All-contains (λ (l : Lit). l.var.0 < length e.store.trail.values) c.args.clause.now c.args.lit
    (explained-range e c.requires.search c.args.clause.now c.requires.explained) c.requires.unit.member)

pub assign-requires-clause-unassigned : goal.assign-requires-clause-unassigned
assign-requires-clause-unassigned c =
    let w = c.in_ok-id.ensures.ok.1 in
    let e : Engine = c.args.self.now in
    let same : c.hold_passing.new.store.trail.values ≡ e.store.trail.values = ap (λ (x : StoreState). x.trail.values) w.2 in
    subst (λ (xs : List (Option Bool)). value_in xs c.args.lit ≡ None) (sym same) c.requires.unit.unassigned

pub assign-requires-clause-reason : goal.assign-requires-clause-reason
assign-requires-clause-reason c x is =
    let w = c.in_ok-id.ensures.ok.1 in
    let p = unit-explained c.args.self.now c.requires.search c.args.clause.now w.0 c.hold_passing.new.store
    c.requires.explained w.1 w.2
    c.hold_passing.ensures.laws c.hold_passing.new.passing c.in_ok-id.ensures.ok.2 c.args.lit c.requires.unit in
    subst (λ (n : ℕ). Implies c.hold_passing.new.store n c.args.lit) (sym c.in_ok-id.ensures.ok.0
    ∙ same_Some c.in_ok-id.id x is) p

-- the literal that is left became true by the clause
abbrev step : Lit → ℕ → ℕ → Step
step lit level id = record { lit = lit; level = level_after level (Some id); reason = Some id }

pub returns-clause-search : goal.returns-clause-search
returns-clause-search c =
    let w = c.in_ok-id.ensures.ok.1 in
    let mid = search-explained c.args.self.now c.requires.search c.args.clause.now w.0 c.hold_passing.new.store
    c.requires.explained w.1 w.2
    c.hold_passing.ensures.laws c.hold_passing.new.passing c.in_ok-id.ensures.ok.2 in
    further-search (with_passing (with_store c.args.self.now c.hold_passing.new.store)
    c.hold_passing.new.passing) mid
    (step c.args.lit c.hold_passing.new.store.trail.level c.in_ok-id.id) c.in_ok-id.id c.assign.new.self
    c.assign.ensures.step c.assign.ensures.laws refl refl

pub returns-clause-turn : goal.returns-clause-turn
returns-clause-turn c = λ assume t.
    let w = c.in_ok-id.ensures.ok.1 in
    let mid = search-explained c.args.self.now c.requires.search c.args.clause.now w.0 c.hold_passing.new.store
    c.requires.explained w.1 w.2
    c.hold_passing.ensures.laws c.hold_passing.new.passing c.in_ok-id.ensures.ok.2 in
    further-turn (with_passing (with_store c.args.self.now c.hold_passing.new.store)
    c.hold_passing.new.passing) mid
    (step c.args.lit c.hold_passing.new.store.trail.level c.in_ok-id.id) c.in_ok-id.id c.assign.new.self
    c.assign.ensures.step c.assign.ensures.laws refl refl assume
    (turn-explained c.args.self.now c.requires.search c.args.clause.now w.0 c.hold_passing.new.store c.requires.explained
    w.1 w.2
    c.hold_passing.ensures.laws c.hold_passing.new.passing c.in_ok-id.ensures.ok.2 assume t)

pub returns-clause-ahead : goal.returns-clause-ahead
returns-clause-ahead c = λ goal-of a.
    let w = c.in_ok-id.ensures.ok.1 in
    let mid = search-explained c.args.self.now c.requires.search c.args.clause.now w.0 c.hold_passing.new.store
    c.requires.explained w.1 w.2
    c.hold_passing.ensures.laws c.hold_passing.new.passing c.in_ok-id.ensures.ok.2 in
    further-goes (with_passing (with_store c.args.self.now c.hold_passing.new.store)
    c.hold_passing.new.passing) mid
    (step c.args.lit c.hold_passing.new.store.trail.level c.in_ok-id.id) c.in_ok-id.id c.assign.new.self
    c.assign.ensures.step c.assign.ensures.laws refl refl goal-of
    (ahead-explained c.args.self.now c.requires.search c.args.clause.now w.0 c.hold_passing.new.store
    c.requires.explained w.1 w.2
    c.hold_passing.ensures.laws c.hold_passing.new.passing c.in_ok-id.ensures.ok.2 goal-of a)
