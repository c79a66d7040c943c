use Rattle.std.proofs.Common.{◌≡◌, ℕ, ◌+◌, ◌-◌, ◌^◌, ◌<◌, min, length, Option, List, subst, refl, sym, ◌∙◌, arith, All}
use Rattle.lit_core.specs.declared.literals.Lit.{Lit}
use Rattle.clause_store.specs.TrailState.{TrailState}
use Rattle.search_engine.specs.Searching.{IsLevelOf, KeepsAssumed}
use Rattle.search_engine.specs.declared.engine.Engine.{Engine}
use Rattle.search_engine.proofs.GivenBack.{lesson-given, search-given}
use Rattle.search_engine.proofs.TrailChange.{cut-assumed, cut-orderly}
use Rattle.search_engine.proofs.SearchFacts.{Moves, search-moves, root-gives, conflict-still, current-still}
use Rattle.search_engine.proofs.SearchFacts.{lesson-search, lesson-assumed, lesson-gives, level-within}
use Rattle.search_engine.proofs.engine.Engine.learn_from.Goals as goal

pub returns-then-level-eq0-clause-lesson : goal.returns-then-level-eq0-clause-lesson
returns-then-level-eq0-clause-lesson c =
    let at : IsLevelOf c.args.self.now.store c.args.conflict 0 =
    subst (λ (n : ℕ). IsLevelOf c.args.self.now.store c.args.conflict n) c.if-level-eq0.true
    c.conflict_level-level.ensures in (
      (let u = c.requires.unrefuted in let r = c.refute.ensures.counts.root_conflicts in omega (arith, u, r)),
      root-gives c.args.self.now c.args.conflict c.requires.search at,
      c.refute.ensures.counts.conflicts,
    )

pub refute-requires-clause-level : goal.refute-requires-clause-level
refute-requires-clause-level c = subst (λ (n : ℕ). IsLevelOf c.args.self.now.store c.args.conflict n)
    c.if-level-eq0.true c.conflict_level-level.ensures

pub back_to-requires : goal.back_to-requires
back_to-requires c = level-within c.args.self.now.store c.requires.search.engine.store c.args.conflict
    c.conflict_level-level.result c.conflict_level-level.ensures

pub analyse-requires-clause-conflict : goal.analyse-requires-clause-conflict
analyse-requires-clause-conflict c = conflict-still c.args.self.now.store c.back_to.new.self c.args.conflict
    c.conflict_level-level.result c.back_to.ensures.trail c.back_to.ensures.clauses c.back_to.ensures.laws
    c.conflict_level-level.ensures

pub analyse-requires-clause-current : goal.analyse-requires-clause-current
analyse-requires-clause-current c = current-still c.args.self.now.store c.back_to.new.self c.args.conflict
    c.conflict_level-level.result c.back_to.ensures.trail c.back_to.ensures.clauses c.back_to.ensures.laws
    c.conflict_level-level.ensures c.if-level-eq0.false

pub returns-in_err-analysis-clause-search : goal.returns-in_err-analysis-clause-search
returns-in_err-analysis-clause-search c =
    let e : Engine = c.args.self.now in
    let f : Engine = record {
      alloc = e.alloc;
      problem = e.problem;
      store = c.back_to.new.self;
      learnt = e.learnt;
      ids = e.ids;
      passing = e.passing;
      moments = e.moments;
      decider = c.takes_back.new.self;
      ledger = c.take_back.new.self;
      log = e.log;
      searches = e.searches;
      known = e.known;
      conflicts = e.conflicts;
      root_conflicts = e.root_conflicts;
      assumed = 0;
      closed = e.closed;
      base = e.base;
    } in
    let moves : Moves e f = record {
      problem = refl;
      learnt = refl;
      ids = refl;
      passing = refl;
      moments = refl;
      known = refl;
      searches =
          refl;
      closed = refl;
      base = refl;
      clauses = c.back_to.ensures.clauses;
      size = c.back_to.ensures.trail.size;
    } in
    search-moves e f moves c.back_to.ensures.laws (cut-orderly c.conflict_level-level.result e.store.trail
    c.back_to.new.self.trail c.back_to.ensures.trail e.problem.vars c.requires.search.orderly)
    (omega arith) c.requires.search.fewer c.requires.search.once c.requires.search

pub returns-in_err-analysis-clause-decisions : goal.returns-in_err-analysis-clause-decisions
returns-in_err-analysis-clause-decisions c = cut-assumed c.conflict_level-level.result c.args.self.now.store.trail
    c.back_to.new.self.trail c.back_to.ensures.trail

module _ (c : goal.After-give_back) where
  abbrev done : Engine
  done = record {
    alloc = c.args.self.now.alloc;
    problem = c.args.self.now.problem;
    store = c.back_to-2.new.self;
    learnt = c.args.self.now.learnt;
    ids = c.args.self.now.ids;
    passing = c.args.self.now.passing;
    moments = c.args.self.now.moments;
    decider = c.takes_back-2.new.self;
    ledger = c.take_back-2.new.self;
    log = c.args.self.now.log;
    searches = c.args.self.now.searches;
    known = c.args.self.now.known;
    conflicts = c.saturating_add-self.result;
    root_conflicts = c.args.self.now.root_conflicts;
    assumed = 0;
    closed = c.args.self.now.closed;
    base = c.args.self.now.base;
  }

  size : length c.back_to-2.new.self.trail.values ≡ length c.args.self.now.store.trail.values
  size = c.back_to-2.ensures.trail.size ∙ c.back_to.ensures.trail.size

  moves : Moves c.args.self.now done
  moves = record {
    problem = refl;
    learnt = refl;
    ids = refl;
    passing = refl;
    moments = refl;
    known = refl;
    searches = refl;
    closed =
        refl;
    base = refl;
    clauses = c.back_to-2.ensures.clauses ∙ c.back_to.ensures.clauses;
    size = size;
  }

  counts : c.saturating_add-self.result ≡ min (c.args.self.now.conflicts + 1) (2 ^ 64 - 1)
  counts = c.saturating_add-self.ensures

pub give_back-requires-clause-within : goal.give_back-requires-clause-within
give_back-requires-clause-within c =
    let same : c.back_to-2.new.self.clauses ≡ c.args.self.now.store.clauses = c.back_to-2.ensures.clauses
    ∙ c.back_to.ensures.clauses in
    subst (λ (cl : List (Option (List Lit))). All (λ id. id < length cl) c.args.self.now.passing.items) (sym same)
    c.requires.search.passing.within

pub returns-clause-search : goal.returns-clause-search
returns-clause-search c = search-given (done c) c.give_back.new.store c.give_back.new.passing
    (lesson-search c.args.self.now (done c) (moves c) c.requires.search c.back_to.new.self
    c.conflict_level-level.result c.args.conflict c.conflict_level-level.ensures c.if-level-eq0.false
    c.back_to.ensures.trail c.back_to.ensures.clauses c.back_to.ensures.laws c.in_ok-analysis.analysis
    c.in_ok-analysis.ensures c.back_to-2.ensures.trail c.back_to-2.ensures.laws (counts c) c.requires.unrefuted
    c.requires.stands (let f = c.fits-self in omega arith))
    c.give_back.ensures.given c.give_back.ensures.trail c.give_back.ensures.laws

pub returns-clause-decisions : goal.returns-clause-decisions
returns-clause-decisions c = subst (λ (t : TrailState). KeepsAssumed c.args.self.now.store.trail.steps t.steps)
    (sym c.give_back.ensures.trail) (lesson-assumed c.args.self.now (done c) (moves c) c.requires.search
    c.back_to.new.self c.conflict_level-level.result c.args.conflict c.conflict_level-level.ensures
    c.if-level-eq0.false c.back_to.ensures.trail c.back_to.ensures.clauses c.back_to.ensures.laws
    c.in_ok-analysis.analysis c.in_ok-analysis.ensures c.back_to-2.ensures.trail c.back_to-2.ensures.laws (counts c)
    c.requires.unrefuted)

pub returns-clause-lesson : goal.returns-clause-lesson
returns-clause-lesson c = lesson-given c.args.self.now (done c) c.give_back.new.store c.give_back.new.passing
    c.in_ok-analysis.analysis.clause.items c.give_back.ensures.trail
    (lesson-gives c.args.self.now (done c) (moves c) c.requires.search c.back_to.new.self
    c.conflict_level-level.result c.args.conflict c.conflict_level-level.ensures c.if-level-eq0.false
    c.back_to.ensures.trail c.back_to.ensures.clauses c.back_to.ensures.laws c.in_ok-analysis.analysis
    c.in_ok-analysis.ensures c.back_to-2.ensures.trail c.back_to-2.ensures.laws (counts c) c.requires.unrefuted)
