use Rattle.std.proofs.Common.{◌≡◌, ◌<◌, ℕ, Bool, Option, Some, None, List, All, length, refl, sym, ap, ◌∙◌, subst}
use Rattle.std.proofs.lemmas.List.Elements.{All-contains}
use Rattle.std.proofs.lemmas.Option.{same_Some}
use Rattle.std.proofs.lemmas.Result.{IfOk-weaker}
use Rattle.lit_core.specs.declared.literals.Lit.{Lit}
use Rattle.lit_core.specs.Literals.{value_in}
use Rattle.clause_store.specs.declared.trails.Step.{Step}
use Rattle.clause_store.specs.TrailLaws.{level_after}
use Rattle.clause_store.specs.StoreState.{StoreState, IsConflict, Implies}
use Rattle.search_engine.specs.declared.engine.Engine.{Engine}
use Rattle.search_engine.specs.declared.searching.Outcome.{Outcome}
use Rattle.search_engine.specs.Searching.{TurnEnds}
use Rattle.search_engine.proofs.DecideFacts.{with_passing, with_store}
use Rattle.search_engine.proofs.Explained.{explained-range, explained-unopposed, further-goes, further-search}
use Rattle.search_engine.proofs.Explained.{further-turn}
use Rattle.search_engine.proofs.SumFacts.{followed-ahead, followed-conflict, followed-implies, followed-range}
use Rattle.search_engine.proofs.SumFacts.{followed-search, followed-stands, followed-turn, implied-explained}
use Rattle.search_engine.proofs.TurnFacts.{settled-from}
use Rattle.search_engine.proofs.SearchFacts.{search-spare}
use Rattle.search_engine.proofs.engine.Engine.follow.Goals as goal

pub hold_passing-requires-clause-in_range : goal.hold_passing-requires-clause-in_range
hold_passing-requires-clause-in_range c =
    let e : Engine = c.args.self.now in
    explained-range e c.requires.search c.args.clause.now
    (implied-explained e.problem e.store.trail.values c.args.clause.now c.requires.search.engine.problem
    c.requires.implied)

pub hold_passing-requires-clause-unopposed : goal.hold_passing-requires-clause-unopposed
hold_passing-requires-clause-unopposed c =
    let e : Engine = c.args.self.now in
    explained-unopposed e c.requires.search c.args.clause.now
    (implied-explained e.problem e.store.trail.values c.args.clause.now c.requires.search.engine.problem
    c.requires.implied)

-- where there was no memory nothing changed
pub returns-in_err-id-clause-search : goal.returns-in_err-id-clause-search
returns-in_err-id-clause-search c = search-spare c.args.self.now _ refl refl refl refl c.in_err-id.ensures.same refl
    refl refl refl refl (ap (λ (s : StoreState). s.clauses) c.in_err-id.ensures.err)
    (ap (λ (s : StoreState). s.trail) c.in_err-id.ensures.err) c.hold_passing.ensures.laws c.requires.search

pub returns-in_err-id-clause-turn : goal.returns-in_err-id-clause-turn
returns-in_err-id-clause-turn c = λ assume t. record {
  decisions = rw c.in_err-id.ensures.err t.decisions;
  trues = rw c.in_err-id.ensures.err t.trues;
}

pub first_open-requires : goal.first_open-requires
first_open-requires c =
    let w = c.in_ok-id.ensures.ok.1 in
    subst (λ (xs : List (Option Bool)). All (λ (l : Lit). l.var.0 < length xs) c.args.clause.now)
    (sym c.assignment.ensures.value)
    (followed-range c.args.self.now c.requires.search c.args.clause.now w.0 c.hold_passing.new.store c.requires.implied
    w.1 w.2
    c.hold_passing.ensures.laws c.hold_passing.new.passing c.in_ok-id.ensures.ok.2)

pub settle_within-requires-clause-search : goal.settle_within-requires-clause-search
settle_within-requires-clause-search c =
    let w = c.in_ok-id.ensures.ok.1 in
    followed-search c.args.self.now c.requires.search c.args.clause.now w.0 c.hold_passing.new.store c.requires.implied
    w.1 w.2
    c.hold_passing.ensures.laws c.hold_passing.new.passing c.in_ok-id.ensures.ok.2

pub settle_within-requires-clause-conflict : goal.settle_within-requires-clause-conflict
settle_within-requires-clause-conflict c =
    let w = c.in_ok-id.ensures.ok.1 in
    let none : All (λ l. value_in c.hold_passing.new.store.trail.values l ≡ None → ⊥) c.args.clause.now =
    subst (λ (xs : List (Option Bool)). All (λ l. value_in xs l ≡ None → ⊥) c.args.clause.now)
    c.assignment.ensures.value c.in-None.ensures.none in
    subst (IsConflict c.hold_passing.new.store) (sym c.in_ok-id.ensures.ok.0)
    (followed-conflict c.args.self.now c.requires.search c.args.clause.now w.0 c.hold_passing.new.store
    c.requires.implied w.1 w.2
    c.hold_passing.ensures.laws c.hold_passing.new.passing c.in_ok-id.ensures.ok.2 none)

pub settle_within-requires-clause-stands : goal.settle_within-requires-clause-stands
settle_within-requires-clause-stands c =
    let w = c.in_ok-id.ensures.ok.1 in
    followed-stands c.args.self.now c.requires.search c.args.clause.now w.0 c.hold_passing.new.store c.requires.implied
    w.1 w.2
    c.hold_passing.ensures.laws c.hold_passing.new.passing c.in_ok-id.ensures.ok.2 0 c.requires.ahead

pub returns-in-None-clause-turn : goal.returns-in-None-clause-turn
returns-in-None-clause-turn c = λ assume t.
    let w = c.in_ok-id.ensures.ok.1 in
    c.settle_within.ensures.turn assume (followed-turn c.args.self.now c.requires.search c.args.clause.now w.0
    c.hold_passing.new.store c.requires.implied w.1 w.2
    c.hold_passing.ensures.laws c.hold_passing.new.passing c.in_ok-id.ensures.ok.2 assume t)

pub returns-in-None-clause-answer : goal.returns-in-None-clause-answer
returns-in-None-clause-answer c =
    let w = c.in_ok-id.ensures.ok.1 in
    let e : Engine = c.args.self.now in
    let m : Engine = with_passing (with_store e c.hold_passing.new.store) c.hold_passing.new.passing in
    let f : Engine = c.settle_within.new.self in
    let most = c.args.most in
    let ahead = followed-ahead e c.requires.search c.args.clause.now w.0 c.hold_passing.new.store c.requires.implied
    w.1 w.2
    c.hold_passing.ensures.laws c.hold_passing.new.passing c.in_ok-id.ensures.ok.2 in
    IfOk-weaker c.settle_within.result (λ (x : Outcome). (assume : List Lit) → TurnEnds assume most m f x)
    (λ (x : Outcome). (assume : List Lit) → TurnEnds assume most e f x)
    (λ x h assume. settled-from assume most e m f x refl (λ goal-of a. ahead goal-of a) (h assume))
    c.settle_within.ensures.answer

pub assign-requires-clause-in_range : goal.assign-requires-clause-in_range
assign-requires-clause-in_range c =
    let w = c.in_ok-id.ensures.ok.1 in
    All-contains (λ (l : Lit). l.var.0 < length c.hold_passing.new.store.trail.values) c.args.clause.now c.in-Some.lit
    (followed-range c.args.self.now c.requires.search c.args.clause.now w.0 c.hold_passing.new.store c.requires.implied
    w.1 w.2
    c.hold_passing.ensures.laws c.hold_passing.new.passing c.in_ok-id.ensures.ok.2) c.in-Some.ensures.some

pub assign-requires-clause-unassigned : goal.assign-requires-clause-unassigned
assign-requires-clause-unassigned c = subst (λ (xs : List (Option Bool)). value_in xs c.in-Some.lit ≡ None)
    c.assignment.ensures.value c.in-Some.ensures.open

pub assign-requires-clause-reason : goal.assign-requires-clause-reason
assign-requires-clause-reason c x is =
    let w = c.in_ok-id.ensures.ok.1 in
    let none : value_in c.hold_passing.new.store.trail.values c.in-Some.lit ≡ None =
    subst (λ (xs : List (Option Bool)). value_in xs c.in-Some.lit ≡ None) c.assignment.ensures.value
    c.in-Some.ensures.open in
    let p = followed-implies c.args.self.now c.requires.search c.args.clause.now w.0 c.hold_passing.new.store
    c.requires.implied w.1 w.2
    c.hold_passing.ensures.laws c.hold_passing.new.passing c.in_ok-id.ensures.ok.2 c.in-Some.lit c.in-Some.ensures.some none in
    subst (λ (n : ℕ). Implies c.hold_passing.new.store n c.in-Some.lit)
    (sym c.in_ok-id.ensures.ok.0 ∙ same_Some c.in_ok-id.id x is) p

-- the literal that is left became true by the clause
abbrev step : Lit → ℕ → ℕ → Step
step lit level id = record { lit = lit; level = level_after level (Some id); reason = Some id }

pub returns-in-Some-clause-search : goal.returns-in-Some-clause-search
returns-in-Some-clause-search c =
    let w = c.in_ok-id.ensures.ok.1 in
    let mid = followed-search c.args.self.now c.requires.search c.args.clause.now w.0 c.hold_passing.new.store
    c.requires.implied w.1 w.2
    c.hold_passing.ensures.laws c.hold_passing.new.passing c.in_ok-id.ensures.ok.2 in
    further-search (with_passing (with_store c.args.self.now c.hold_passing.new.store)
    c.hold_passing.new.passing) mid
    (step c.in-Some.lit c.hold_passing.new.store.trail.level c.in_ok-id.id) c.in_ok-id.id c.assign.new.self
    c.assign.ensures.step c.assign.ensures.laws refl refl

pub returns-in-Some-clause-turn : goal.returns-in-Some-clause-turn
returns-in-Some-clause-turn c = λ assume t.
    let w = c.in_ok-id.ensures.ok.1 in
    let mid = followed-search c.args.self.now c.requires.search c.args.clause.now w.0 c.hold_passing.new.store
    c.requires.implied w.1 w.2
    c.hold_passing.ensures.laws c.hold_passing.new.passing c.in_ok-id.ensures.ok.2 in
    further-turn (with_passing (with_store c.args.self.now c.hold_passing.new.store)
    c.hold_passing.new.passing) mid
    (step c.in-Some.lit c.hold_passing.new.store.trail.level c.in_ok-id.id) c.in_ok-id.id c.assign.new.self
    c.assign.ensures.step c.assign.ensures.laws refl refl assume
    (followed-turn c.args.self.now c.requires.search c.args.clause.now w.0 c.hold_passing.new.store c.requires.implied
    w.1 w.2
    c.hold_passing.ensures.laws c.hold_passing.new.passing c.in_ok-id.ensures.ok.2 assume t)

pub returns-in-Some-clause-answer : goal.returns-in-Some-clause-answer
returns-in-Some-clause-answer c = λ assume.
    let w = c.in_ok-id.ensures.ok.1 in
    let mid = followed-search c.args.self.now c.requires.search c.args.clause.now w.0 c.hold_passing.new.store
    c.requires.implied w.1 w.2
    c.hold_passing.ensures.laws c.hold_passing.new.passing c.in_ok-id.ensures.ok.2 in (
      c.requires.unrefuted,
      λ goal-of a. further-goes (with_passing (with_store c.args.self.now c.hold_passing.new.store)
          c.hold_passing.new.passing) mid
          (step c.in-Some.lit c.hold_passing.new.store.trail.level c.in_ok-id.id) c.in_ok-id.id c.assign.new.self
          c.assign.ensures.step c.assign.ensures.laws refl refl goal-of
          (followed-ahead c.args.self.now c.requires.search c.args.clause.now w.0 c.hold_passing.new.store
          c.requires.implied w.1 w.2
          c.hold_passing.ensures.laws c.hold_passing.new.passing c.in_ok-id.ensures.ok.2 goal-of a),
    )
