use Rattle.std.proofs.Common.{refl, sym, ap, subst}
use Rattle.clause_store.specs.StoreState.{StoreState, IsConflict}
use Rattle.search_engine.specs.declared.engine.Engine.{Engine}
use Rattle.search_engine.proofs.Explained.{explained-range, explained-unopposed, conflict-explained, search-explained}
use Rattle.search_engine.proofs.Explained.{turn-explained}
use Rattle.search_engine.proofs.SearchFacts.{search-spare}
use Rattle.search_engine.proofs.TurnFacts.{turn-reset}
use Rattle.search_engine.proofs.engine.Engine.settle_broken.Goals as goal

pub hold_passing-requires-clause-in_range : goal.hold_passing-requires-clause-in_range
hold_passing-requires-clause-in_range c = explained-range c.args.self.now c.requires.search c.args.clause.now
    c.requires.explained

pub hold_passing-requires-clause-unopposed : goal.hold_passing-requires-clause-unopposed
hold_passing-requires-clause-unopposed c = explained-unopposed c.args.self.now c.requires.search c.args.clause.now
    c.requires.explained

pub settle-requires-clause-search : goal.settle-requires-clause-search
settle-requires-clause-search c =
    let e : Engine = c.args.self.now in
    let w = c.in-Ok.ensures.ok.1 in
    search-explained e c.requires.search c.args.clause.now w.0 c.hold_passing.new.store c.requires.explained w.1 w.2
    c.hold_passing.ensures.laws c.hold_passing.new.passing c.in-Ok.ensures.ok.2

pub settle-requires-clause-conflict : goal.settle-requires-clause-conflict
settle-requires-clause-conflict c =
    let e : Engine = c.args.self.now in
    let w = c.in-Ok.ensures.ok.1 in
    subst (IsConflict c.hold_passing.new.store) (sym c.in-Ok.ensures.ok.0)
    (conflict-explained e c.requires.search c.args.clause.now w.0 c.hold_passing.new.store c.requires.explained w.1 w.2
    c.hold_passing.ensures.laws c.hold_passing.new.passing c.in-Ok.ensures.ok.2 c.requires.falsified)

-- where there was no memory nothing changed
pub returns-in_default-clause-search : goal.returns-in_default-clause-search
returns-in_default-clause-search c = search-spare c.args.self.now _ refl refl refl refl c.in_default.ensures.same refl
    refl refl refl refl (ap (λ (s : StoreState). s.clauses) c.in_default.ensures.err)
    (ap (λ (s : StoreState). s.trail) c.in_default.ensures.err) c.hold_passing.ensures.laws c.requires.search

pub returns-in_default-clause-turn : goal.returns-in_default-clause-turn
returns-in_default-clause-turn c = λ assume t. record {
  decisions = rw c.in_default.ensures.err t.decisions;
  trues = rw c.in_default.ensures.err t.trues;
}

-- the assumptions are looked at from the first on
pub returns-in-Ok-true-clause-turn : goal.returns-in-Ok-true-clause-turn
returns-in-Ok-true-clause-turn c = λ assume t.
    let w = c.in-Ok.ensures.ok.1 in
    turn-reset assume c.settle.new.self (c.settle.ensures.decisions assume
    (turn-explained c.args.self.now c.requires.search c.args.clause.now w.0 c.hold_passing.new.store c.requires.explained
    w.1 w.2
    c.hold_passing.ensures.laws c.hold_passing.new.passing c.in-Ok.ensures.ok.2 assume t).decisions) c.settle.ensures.assumed

pub returns-in-Ok-false-clause-turn : goal.returns-in-Ok-false-clause-turn
returns-in-Ok-false-clause-turn c = λ assume t.
    let w = c.in-Ok.ensures.ok.1 in
    turn-reset assume c.settle.new.self (c.settle.ensures.decisions assume
    (turn-explained c.args.self.now c.requires.search c.args.clause.now w.0 c.hold_passing.new.store c.requires.explained
    w.1 w.2
    c.hold_passing.ensures.laws c.hold_passing.new.passing c.in-Ok.ensures.ok.2 assume t).decisions) c.settle.ensures.assumed

pub returns-in-Err-clause-turn : goal.returns-in-Err-clause-turn
returns-in-Err-clause-turn c = λ assume t.
    let w = c.in-Ok.ensures.ok.1 in
    turn-reset assume c.settle.new.self (c.settle.ensures.decisions assume
    (turn-explained c.args.self.now c.requires.search c.args.clause.now w.0 c.hold_passing.new.store c.requires.explained
    w.1 w.2
    c.hold_passing.ensures.laws c.hold_passing.new.passing c.in-Ok.ensures.ok.2 assume t).decisions) c.settle.ensures.assumed
