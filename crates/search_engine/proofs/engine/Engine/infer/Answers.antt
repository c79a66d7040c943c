use Rattle.std.proofs.Common.{List, All, refl, sym, subst}
use Rattle.std.proofs.lemmas.Result.{IfOk-weaker}
use Rattle.lit_core.specs.declared.literals.Lit.{Lit}
use Rattle.ground_core.specs.declared.parts.AggCon.{AggCon}
use Rattle.aggregate_propagators.specs.Implied.{IsWithin}
use Rattle.search_engine.specs.declared.engine.Engine.{Engine}
use Rattle.search_engine.specs.declared.searching.Outcome.{Outcome}
use Rattle.search_engine.specs.Searching.{TurnEnds}
use Rattle.search_engine.proofs.DecideFacts.{with_ledger}
use Rattle.search_engine.proofs.SumFacts.{all-implied-here, search-noted, some-here, sums-within, turn-noted}
use Rattle.search_engine.proofs.TurnFacts.{settled-from}
use Rattle.search_engine.proofs.engine.Engine.infer.Goals as goal

pub ask-requires-clause-within : goal.ask-requires-clause-within
ask-requires-clause-within c =
    let e : Engine = c.args.self.now in
    subst (λ (ss : List AggCon). All (IsWithin e.store.trail.values) ss) (sym c.sums-sums.ensures.value)
    (sums-within e.problem e.store.trail.values c.requires.search.engine.problem c.requires.search.engine.sized)

pub returns-in-None-clause-answer : goal.returns-in-None-clause-answer
returns-in-None-clause-answer c =
    let e : Engine = c.args.self.now in
    let m : Engine = with_ledger e c.ask.new.self in
    let f : Engine = c.infer_bounds.new.self in
    let most = c.args.most in
    let from = λ (x : Outcome) (h : TurnEnds c.args.assume.now most m f x). settled-from c.args.assume.now most e m f x
    refl (λ goal-of a. a) h in
    IfOk-weaker c.infer_bounds.result (TurnEnds c.args.assume.now most m f) (TurnEnds c.args.assume.now most e f) from
    c.infer_bounds.ensures.answer

-- the engine that has asked
pub follow_all-requires-clause-search : goal.follow_all-requires-clause-search
follow_all-requires-clause-search c = search-noted c.args.self.now c.ask.new.self c.requires.search

pub follow_all-requires-clause-implied : goal.follow_all-requires-clause-implied
follow_all-requires-clause-implied c =
    let e : Engine = c.args.self.now in
    all-implied-here c.sums-sums.result.now e.problem.sums e.store.trail.values _ c.in-Some.found
    c.sums-sums.ensures.value c.in-Some.is c.in_ok-ask.ensures.all

pub follow_all-requires-clause-some : goal.follow_all-requires-clause-some
follow_all-requires-clause-some c = some-here _ c.in-Some.found c.in-Some.is c.in_ok-ask.ensures.some

pub returns-in-Some-clause-turn : goal.returns-in-Some-clause-turn
returns-in-Some-clause-turn c = c.follow_all.ensures.turn c.args.assume.now
    (turn-noted c.args.self.now c.ask.new.self c.args.assume.now c.requires.turn)

pub returns-in-Some-clause-answer : goal.returns-in-Some-clause-answer
returns-in-Some-clause-answer c =
    let e : Engine = c.args.self.now in
    let m : Engine = with_ledger e c.ask.new.self in
    let f : Engine = c.follow_all.new.self in
    let most = c.args.most in
    let from = λ (x : Outcome) (h : (assume : List Lit) → TurnEnds assume most m f x).
    settled-from c.args.assume.now most e m f x refl (λ goal-of a. a) (h c.args.assume.now) in
    IfOk-weaker c.follow_all.result (λ (x : Outcome). (assume : List Lit) → TurnEnds assume most m f x)
    (TurnEnds c.args.assume.now most e f) from c.follow_all.ensures.answer
