-- One search.
use Rattle.std.proofs.Common.{◌≡◌, ◌+◌, ◌^◌, ◌≤◌, ◌<◌, ◌-◌, Ok, List, arith}
use Rattle.lit_core.specs.declared.literals.Lit.{Lit}
use Rattle.ground_core.specs.declared.solving.Budget.{Budget}
use Rattle.ground_core.specs.declared.solving.Verdict.TheVariants.{Unsat}
use Rattle.ground_core.specs.Problems.{ProblemState}
use Rattle.ground_core.specs.Solving.{SolveState, Answers, KeepsCores, Spends, HasCoreWithin, counted}
use Rattle.ground_core.specs.Calls.{Counts, Costs}
use Rattle.ground_core.proofs.CoreFacts.{refusal-kept}
use Rattle.ground_core.proofs.CallFacts.{cost, counts-more}

pub shows : (p : ProblemState) (before after : List (List Lit)) (core ls : List Lit) → Answers p ls (Unsat core)
    → KeepsCores before (Ok (Unsat core)) after → Answers p ls (Unsat core) × HasCoreWithin after ls
shows p before after core ls answers keeps = (answers, refusal-kept before after core ls answers.0 keeps)

pub cost-of-one : (s t : SolveState) (a b : Budget) → t.searches ≡ counted (s.searches + 1) → Spends s t a b
    → Costs 1 s t a b
cost-of-one s t a b searches spends =
    let rises : a.spent ≤ b.spent = spends.rises in
    let fewer : b.spent - a.spent < 2 ^ s.free = spends.fewer in
    let counts : Counts s.free 1 s t a b = record { searches = searches; fewer = omega (arith, rises, fewer) } in
    cost 1 1 s t a b (omega arith) (omega arith) rises (counts-more s.free (s.free + 1) 1 s t a b (omega arith) counts)
