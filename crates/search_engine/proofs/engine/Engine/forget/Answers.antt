use Rattle.std.proofs.Common.{◌≡◌, ◌<◌, ◌∙◌, ℕ, Bool, None, Option, List, [], length, refl, sym, ap, subst, All}
use Rattle.std.proofs.Common.{Contains}
use Rattle.std.proofs.lemmas.List.{length-replicate}
use Rattle.std.proofs.lemmas.List.Elements.{All-weaker, All-contains_itself}
use Rattle.lit_core.specs.declared.literals.Lit.{Lit}
use Rattle.clause_store.specs.TrailState.{TrailState}
use Rattle.clause_store.specs.StoreState.{StoreState}
use Rattle.search_engine.specs.declared.engine.Engine.{Engine}
use Rattle.search_engine.specs.Knowledge.{RemovesAll}
use Rattle.search_engine.proofs.GrowFacts.{resting-forgets}
use Rattle.search_engine.proofs.Known.{ids-within}
use Rattle.search_engine.proofs.engine.Engine.forget.Goals as goal

pub remove_all-requires-clause-within : goal.remove_all-requires-clause-within
remove_all-requires-clause-within c =
    let e : Engine = c.args.self.now in
    let all : All (λ id. id < length e.store.clauses) e.ids.items = All-weaker (Contains e.ids.items)
    (λ id. id < length e.store.clauses) (ids-within e.store.clauses e.ids.items e.learnt
    c.requires.resting.engine.knows.learnt_held) e.ids.items (All-contains_itself e.ids.items) in
    let same : c.clear.new.self.clauses ≡ e.store.clauses = ap (λ (s : StoreState). s.clauses)
    c.clear.ensures.cleared in
    subst (λ (cl : List (Option (List Lit))). All (λ id. id < length cl) c.deref.result.now) (sym same)
    (rw c.deref.ensures.value all)

pub returns-clause-resting : goal.returns-clause-resting
returns-clause-resting c =
    let e : Engine = c.args.self.now in
    let f : Engine = record {
      alloc = e.alloc;
      problem = e.problem;
      store = c.remove_all.new.store;
      learnt = c.truncate.new.self;
      ids = c.clear-2.new.self;
      passing = e.passing;
      moments = c.clear-3.new.self;
      decider = e.decider;
      ledger = e.ledger;
      log = c.forget.new.self;
      searches = e.searches;
      known = e.known;
      conflicts = e.conflicts;
      root_conflicts = e.root_conflicts;
      assumed = e.assumed;
      closed = e.closed;
      base = e.base;
    } in
    let same : c.clear.new.self.clauses ≡ e.store.clauses = ap (λ (s : StoreState). s.clauses)
    c.clear.ensures.cleared in
    let trail : f.store.trail ≡ c.clear.new.self.trail = c.remove_all.ensures.trail in
    let steps : f.store.trail.steps ≡ [] = ap (λ (t : TrailState). t.steps) trail
    ∙ ap (λ (s : StoreState). s.trail.steps) c.clear.ensures.cleared in
    let level : f.store.trail.level ≡ 0 = ap (λ (t : TrailState). t.level) trail
    ∙ ap (λ (s : StoreState). s.trail.level) c.clear.ensures.cleared in
    let size : length f.store.trail.values ≡ length e.store.trail.values =
    ap (λ (t : TrailState). length t.values) trail ∙ (ap (λ (s : StoreState). length s.trail.values)
    c.clear.ensures.cleared ∙ length-replicate {A = Option Bool} (length e.store.trail.values) None) in
    let removed : RemovesAll e.ids.items c.clear.new.self.clauses c.remove_all.new.store.clauses =
    subst (λ (xs : List ℕ). RemovesAll xs c.clear.new.self.clauses c.remove_all.new.store.clauses)
    c.deref.ensures.value c.remove_all.ensures.removed in
    let here : RemovesAll e.ids.items e.store.clauses f.store.clauses =
    subst (λ (cl : List (Option (List Lit))). RemovesAll e.ids.items cl f.store.clauses) same removed in
    resting-forgets e f c.requires.resting here steps level size c.remove_all.ensures.laws refl c.truncate.ensures
    c.clear-2.ensures.items refl c.clear-3.ensures.items refl refl
