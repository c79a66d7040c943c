use Rattle.std.proofs.Common.{◌≡◌, ℕ, ◌∷◌, [], ◌++◌, ◌<◌, ◌^◌, Some, length, sym, ap, ◌∙◌, refl, subst, arith}
use Rattle.std.proofs.lemmas.Option.{same_Some}
use Rattle.std.proofs.lemmas.List.{length-set}
use Rattle.clause_store.specs.declared.trails.Step.{Step}
use Rattle.clause_store.specs.TrailState.{TrailState}
use Rattle.clause_store.specs.TrailLaws.{level_after}
use Rattle.clause_store.specs.StoreState.{StoreState, Implies}
use Rattle.ground_core.specs.Moments.{moment_of}
use Rattle.search_engine.specs.declared.engine.Engine.{Engine}
use Rattle.search_engine.specs.Searching.{Extends}
use Rattle.search_engine.proofs.SearchFacts.{search-spare}
use Rattle.search_engine.proofs.TrailChange.{extends-refl}
use Rattle.search_engine.proofs.LearntFacts.{first_of, pushed-implies, pushed-clauses, pushed-trail, pushed-number}
use Rattle.search_engine.proofs.LearntFacts.{learnt-search, learnt-extends}
use Rattle.search_engine.proofs.LogFacts.{spare-continues}
use Rattle.search_engine.proofs.engine.Engine.learn.Goals as goal

pub assign-requires-clause-reason : goal.assign-requires-clause-reason
assign-requires-clause-reason c x e =
    let w = c.in-Ok.ensures.ok in
    let same-clauses = ap (λ (s : StoreState). s.clauses) c.in_ok-reserve_clause.ensures.ok in
    let same-trail = ap (λ (s : StoreState). s.trail) c.in_ok-reserve_clause.ensures.ok in
    let p = pushed-implies c.args.self.now.store c.reserve_clause.new.self c.push_clause.new.self c.args.clause.now
    w.1.0 c.in-Ok.id same-clauses same-trail w.1.2 w.1.1 w.0 c.requires.lesson.others in
    subst (λ (n : ℕ). Implies c.push_clause.new.self n (first_of c.args.clause.now)) (same_Some c.in-Ok.id x e) p

module _ (c : goal.After-assign) where
  abbrev old : StoreState
  old = c.args.self.now.store

  abbrev step : Step
  step = record {
    lit = first_of c.args.clause.now;
    level = level_after c.push_clause.new.self.trail.level
        (Some c.in-Ok.id);
    reason = Some c.in-Ok.id;
  }

  abbrev done : Engine
  done = record {
    alloc = c.args.self.now.alloc;
    problem = c.args.self.now.problem;
    store = c.assign.new.self;
    learnt = c.push.new.self;
    ids = c.push_reserved.new.self;
    passing = c.args.self.now.passing;
    moments = c.push_reserved-2.new.self;
    decider = c.args.self.now.decider;
    ledger = c.args.self.now.ledger;
    log = c.learnt.new.self;
    searches = c.args.self.now.searches;
    known = c.args.self.now.known;
    conflicts = c.args.self.now.conflicts;
    root_conflicts = c.args.self.now.root_conflicts;
    assumed = c.args.self.now.assumed;
    closed = c.args.self.now.closed;
    base = c.args.self.now.base;
  }

  same-clauses : c.reserve_clause.new.self.clauses ≡ old.clauses
  same-clauses = ap (λ (s : StoreState). s.clauses) c.in_ok-reserve_clause.ensures.ok

  same-trail : c.reserve_clause.new.self.trail ≡ old.trail
  same-trail = ap (λ (s : StoreState). s.trail) c.in_ok-reserve_clause.ensures.ok

  trail : c.push_clause.new.self.trail ≡ old.trail
  trail = let w = c.in-Ok.ensures.ok in pushed-trail old c.reserve_clause.new.self c.push_clause.new.self
      c.args.clause.now w.1.0 c.in-Ok.id same-clauses same-trail w.1.2 w.1.1 w.0 c.requires.lesson.others

  clauses : c.assign.new.self.clauses ≡ old.clauses ++ Some c.in-Ok.ensures.ok.1.0 ∷ []
  clauses = let w = c.in-Ok.ensures.ok in ap (λ (s : StoreState). s.clauses) c.assign.ensures.step
      ∙ pushed-clauses old c.reserve_clause.new.self c.push_clause.new.self c.args.clause.now w.1.0 c.in-Ok.id
      same-clauses same-trail w.1.2 w.1.1 w.0 c.requires.lesson.others

  number : c.in-Ok.id ≡ length old.clauses
  number = let w = c.in-Ok.ensures.ok in pushed-number old c.reserve_clause.new.self c.push_clause.new.self
      c.args.clause.now w.1.0 c.in-Ok.id same-clauses same-trail w.1.2 w.1.1 w.0 c.requires.lesson.others

  steps : c.assign.new.self.trail.steps ≡ old.trail.steps ++ step ∷ []
  steps = ap (λ (s : StoreState). s.trail.steps) c.assign.ensures.step
      ∙ ap (λ (t : TrailState). t.steps ++ step ∷ []) trail

  size : length c.assign.new.self.trail.values ≡ length old.trail.values
  size = ap (λ (s : StoreState). length s.trail.values) c.assign.ensures.step
      ∙ (length-set c.push_clause.new.self.trail.values step.lit.var.0 (Some step.lit.positive)
      ∙ ap (λ (t : TrailState). length t.values) trail)

  learnt : c.push.new.self ≡ c.args.self.now.learnt ++ c.args.clause.now ∷ []
  learnt = c.in_ok-push.ensures.ok

  ids : c.push_reserved.new.self.items ≡ c.args.self.now.ids.items ++ length old.clauses ∷ []
  ids = c.push_reserved.ensures.items ∙ (ap (λ xs. xs ++ c.in-Ok.id ∷ []) c.in_ok-reserve.ensures.items
      ∙ ap (λ (n : ℕ). c.args.self.now.ids.items ++ n ∷ []) number)

  moments : c.push_reserved-2.new.self.items ≡ c.args.self.now.moments.items ++ moment_of c.args.self.now.problem ∷ []
  moments = c.push_reserved-2.ensures.items ∙ (ap (λ xs. xs ++ c.moment.result ∷ []) c.in_ok-reserve-2.ensures.items
      ∙ ap (λ m. c.args.self.now.moments.items ++ m ∷ []) c.moment.ensures)

  fits : length c.push.new.self < 2 ^ 64
  fits = let e = c.len-count.ensures in omega arith

pub returns-clause-search : goal.returns-clause-search
returns-clause-search c = learnt-search c.args.self.now (done c) c.requires.search c.requires.quiet c.args.clause.now
    c.in-Ok.ensures.ok.1.0 c.requires.lesson c.requires.first c.in-Ok.ensures.ok.1.1 (step c) refl refl (clauses c)
    (steps c) (size c) c.assign.ensures.laws refl refl refl refl refl (record {
      conflicts = refl;
      root_conflicts = refl;
      assumed = refl;
    }) (learnt c) (moments c) (ids c) refl (fits c)

pub returns-clause-steps : goal.returns-clause-steps
returns-clause-steps c = learnt-extends c.args.self.now (done c) c.requires.search c.requires.quiet c.args.clause.now
    c.in-Ok.ensures.ok.1.0 c.requires.lesson c.requires.first c.in-Ok.ensures.ok.1.1 (step c) refl refl (clauses c)
    (steps c) (size c) c.assign.ensures.laws refl refl refl refl refl (record {
      conflicts = refl;
      root_conflicts = refl;
      assumed = refl;
    }) (learnt c) (moments c) (ids c) refl (fits c)

pub returns-in_err-reserve-clause-search : goal.returns-in_err-reserve-clause-search
returns-in_err-reserve-clause-search c = search-spare c.args.self.now _ refl refl c.in_err-reserve.ensures.items refl
    refl refl refl refl refl refl
    (ap (λ (s : StoreState). s.clauses) c.in_ok-reserve_clause.ensures.ok)
    (ap (λ (s : StoreState). s.trail) c.in_ok-reserve_clause.ensures.ok) c.reserve_clause.ensures.laws c.requires.search

pub returns-in_err-reserve-clause-steps : goal.returns-in_err-reserve-clause-steps
returns-in_err-reserve-clause-steps c = subst (λ (t : TrailState). Extends c.args.self.now.store.trail.steps t.steps)
    (sym (ap (λ (s : StoreState). s.trail) c.in_ok-reserve_clause.ensures.ok))
    (extends-refl c.args.self.now.store.trail.steps)

pub returns-in_err-reserve-2-clause-search : goal.returns-in_err-reserve-2-clause-search
returns-in_err-reserve-2-clause-search c = search-spare c.args.self.now _ refl refl c.in_ok-reserve.ensures.items
    c.in_err-reserve-2.ensures.items refl refl refl refl refl refl
    (ap (λ (s : StoreState). s.clauses)
    c.in_ok-reserve_clause.ensures.ok) (ap (λ (s : StoreState). s.trail) c.in_ok-reserve_clause.ensures.ok)
    c.reserve_clause.ensures.laws c.requires.search

pub returns-in_err-reserve-2-clause-steps : goal.returns-in_err-reserve-2-clause-steps
returns-in_err-reserve-2-clause-steps c = subst (λ (t : TrailState). Extends c.args.self.now.store.trail.steps t.steps)
    (sym (ap (λ (s : StoreState). s.trail) c.in_ok-reserve_clause.ensures.ok))
    (extends-refl c.args.self.now.store.trail.steps)

pub returns-in_err-push-clause-search : goal.returns-in_err-push-clause-search
returns-in_err-push-clause-search c = search-spare c.args.self.now _ refl c.in_err-push.ensures.err
    c.in_ok-reserve.ensures.items c.in_ok-reserve-2.ensures.items refl refl refl refl refl refl
    (ap (λ (s : StoreState). s.clauses) c.in_ok-reserve_clause.ensures.ok)
    (ap (λ (s : StoreState). s.trail) c.in_ok-reserve_clause.ensures.ok) c.reserve_clause.ensures.laws c.requires.search

pub returns-in_err-push-clause-steps : goal.returns-in_err-push-clause-steps
returns-in_err-push-clause-steps c = subst (λ (t : TrailState). Extends c.args.self.now.store.trail.steps t.steps)
    (sym (ap (λ (s : StoreState). s.trail) c.in_ok-reserve_clause.ensures.ok))
    (extends-refl c.args.self.now.store.trail.steps)

pub returns-in_err-learnt-clause-search : goal.returns-in_err-learnt-clause-search
returns-in_err-learnt-clause-search c = search-spare c.args.self.now _ refl refl c.in_ok-reserve.ensures.items
    c.in_ok-reserve-2.ensures.items refl refl refl refl refl refl
    (ap (λ (s : StoreState). s.clauses)
    c.in_ok-reserve_clause.ensures.ok) (ap (λ (s : StoreState). s.trail) c.in_ok-reserve_clause.ensures.ok)
    c.reserve_clause.ensures.laws c.requires.search

pub returns-in_err-learnt-clause-steps : goal.returns-in_err-learnt-clause-steps
returns-in_err-learnt-clause-steps c = subst (λ (t : TrailState). Extends c.args.self.now.store.trail.steps t.steps)
    (sym (ap (λ (s : StoreState). s.trail) c.in_ok-reserve_clause.ensures.ok))
    (extends-refl c.args.self.now.store.trail.steps)

pub returns-in_err-learnt-clause-same : goal.returns-in_err-learnt-clause-same
returns-in_err-learnt-clause-same c = spare-continues c.args.self.now _ refl refl refl refl refl
    c.in_ok-reserve-2.ensures.items

pub returns-in_err-push-clause-same : goal.returns-in_err-push-clause-same
returns-in_err-push-clause-same c = spare-continues c.args.self.now _ refl refl refl refl c.in_err-push.ensures.err
    c.in_ok-reserve-2.ensures.items
