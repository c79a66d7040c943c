use Rattle.std.proofs.Common.{Bool, Option, List, All, IfNone, sym, subst}
use Rattle.lit_core.specs.Truth.{IsFalsified}
use Rattle.sum_ledger.specs.declared.consequences.Consequence.{Consequence}
use Rattle.ground_core.specs.declared.parts.AggCon.{AggCon}
use Rattle.ground_core.specs.Intervals.{IsQuiet as IsQuietSum}
use Rattle.aggregate_propagators.specs.Implied.{assigned, IsWithin}
use Rattle.search_engine.specs.declared.engine.Engine.{Engine}
use Rattle.search_engine.proofs.SumFacts.{implied-explained, implied-false, implied-here, sums-within}
use Rattle.search_engine.specs.Searching.{IsExplained}
use Rattle.search_engine.proofs.LogFacts.{search-logged, turn-logged}
use Rattle.search_engine.proofs.engine.Engine.finish.Goals as goal

pub first_implied-requires : goal.first_implied-requires
first_implied-requires c =
    let e : Engine = c.args.self.now in
    subst (λ (ss : List AggCon). All (IsWithin c.assignment.result.now) ss) (sym c.sums-sums.ensures.value)
    (subst (λ (xs : List (Option Bool)). All (IsWithin xs) e.problem.sums) (sym c.assignment.ensures.value)
    (sums-within e.problem e.store.trail.values c.requires.search.engine.problem c.requires.search.engine.sized))

pub answer-requires-clause-sums : goal.answer-requires-clause-sums
answer-requires-clause-sums c =
    let e : Engine = c.args.self.now in
    let quiet : All (IsQuietSum (assigned c.assignment.result.now)) c.sums-sums.result.now =
    subst (λ (o : Option Consequence). IfNone o (All (IsQuietSum (assigned c.assignment.result.now))
    c.sums-sums.result.now)) c.in-None.is c.in-Ok.ensures.quiet in
    subst (λ (ss : List AggCon). All (IsQuietSum (assigned e.store.trail.values)) ss) c.sums-sums.ensures.value
    (subst (λ (xs : List (Option Bool)). All (IsQuietSum (assigned xs)) c.sums-sums.result.now)
    c.assignment.ensures.value quiet)

pub settle_broken-requires-clause-explained : goal.settle_broken-requires-clause-explained
settle_broken-requires-clause-explained c =
    let e : Engine = c.args.self.now in
    let implied = implied-here c.sums-sums.result.now e.problem.sums c.assignment.result.now e.store.trail.values _
    c.in-Some.found c.sums-sums.ensures.value c.assignment.ensures.value c.in-Some.is c.in-Ok.ensures.implied in
    subst (IsExplained e.problem) (sym c.as_slice-in-Some.ensures)
    (implied-explained e.problem e.store.trail.values c.in-Some.found.clause c.requires.search.engine.problem implied)

pub settle_broken-requires-clause-falsified : goal.settle_broken-requires-clause-falsified
settle_broken-requires-clause-falsified c =
    let e : Engine = c.args.self.now in
    let implied = implied-here c.sums-sums.result.now e.problem.sums c.assignment.result.now e.store.trail.values _
    c.in-Some.found c.sums-sums.ensures.value c.assignment.ensures.value c.in-Some.is c.in-Ok.ensures.implied in
    subst (IsFalsified e.store.trail.values) (sym c.as_slice-in-Some.ensures)
    (implied-false e c.requires.search c.args.end c.in-Some.found.clause c.requires.total c.requires.end implied)

pub settle_broken-requires-clause-search : goal.settle_broken-requires-clause-search
settle_broken-requires-clause-search c = search-logged c.args.self.now c.implied-noted.new.self c.requires.search

pub returns-else-is_err-clause-turn : goal.returns-else-is_err-clause-turn
returns-else-is_err-clause-turn c = c.settle_broken.ensures.turn c.args.assume.now
    (turn-logged c.args.self.now c.implied-noted.new.self c.args.assume.now c.requires.turn)
