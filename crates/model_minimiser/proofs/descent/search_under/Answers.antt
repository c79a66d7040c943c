use Rattle.std.proofs.Common.{List, Contains, IfOk, subst, ◌∙◌}
use Rattle.lit_core.specs.declared.literals.Lit.{Lit}
use Rattle.model_minimiser.specs.Minima.{Finds}
use Rattle.ground_core.proofs.CallFacts.{none-counted}
use Rattle.model_minimiser.proofs.descent.search_under.Goals as goal

pub search-requires-clause-unretired : goal.search-requires-clause-unretired
search-requires-clause-unretired g c = λ l a b. c.requires.unretired l a (subst (λ (xs : List Lit). Contains xs l)
    (c.as_slice.ensures.value ∙ c.in-Ok.ensures) b)

pub returns-in-Ok-clause-finds : goal.returns-in-Ok-clause-finds
returns-in-Ok-clause-finds g c =
    subst (λ (xs : List Lit). IfOk c.search.result (Finds (g.S.Solve.state c.args.s.now).problem xs
    c.args.objective.now.term
    (g.S.Solve.state c.search.new.s).cores)) (c.as_slice.ensures.value ∙ c.in-Ok.ensures) c.search.ensures.finds

pub returns-in-Err-clause-counts : goal.returns-in-Err-clause-counts
returns-in-Err-clause-counts g c = none-counted (g.S.Solve.state c.args.s.now).free 1 (g.S.Solve.state c.args.s.now)
    c.args.budget.now c.requires.kept.counted
