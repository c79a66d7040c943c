use Rattle.std.proofs.Common.{◌+◌, ◌++◌, ◌∷◌, [], List, sym, subst}
use Rattle.lit_core.specs.declared.literals.Lit.{Lit}
use Rattle.ground_core.specs.Growth.{next_lit}
use Rattle.ground_core.specs.Solving.{SolveState, AreUnretired}
use Rattle.ground_core.specs.Calls.{CountsUpTo, Keeps}
use Rattle.ground_core.proofs.CallFacts.{keeps-none, none-counted}
use Rattle.model_minimiser.proofs.TurnFacts.{unretired, turn-adds, turn-keeps, turn-found, turn-none, turn-nothing}
use Rattle.model_minimiser.proofs.descent.lower.Goals as goal

pub returns-in_default-clause-counts : goal.returns-in_default-clause-counts
returns-in_default-clause-counts g c =
    let s : SolveState = g.S.Solve.state c.args.s.now in
    subst (λ (t : SolveState). CountsUpTo (s.free + 1) 1 s t c.args.budget.now c.args.budget.now)
    (sym c.in_default.ensures.same.0) (none-counted (s.free + 1) 1 s c.args.budget.now c.requires.kept.counted)

pub search_under-requires-clause-unretired : goal.search_under-requires-clause-unretired
search_under-requires-clause-unretired g c =
    let s : SolveState = g.S.Solve.state c.args.s.now in
    let t : SolveState = g.S.Solve.state c.bound.new.s in
    let ls : List Lit = c.args.objective.now.assume.now in
    subst (λ (l : Lit). AreUnretired t.problem (ls ++ l ∷ [])) (sym c.in-Ok.ensures.made.0)
    (subst (λ (u : SolveState). AreUnretired u.problem (ls ++ next_lit s.problem ∷ [])) (sym c.in-Ok.ensures.made.1)
    (unretired s.problem c.args.objective.now.term c.args.below ls c.requires.kept.problem c.requires.term
    c.requires.literals
    c.requires.unretired))

pub returns-in-Ok-Some-clause-finds : goal.returns-in-Ok-Some-clause-finds
returns-in-Ok-Some-clause-finds g c =
    let s0 : SolveState = g.S.Solve.state c.args.s.now in
    let s1 : SolveState = g.S.Solve.state c.bound.new.s in
    let s2 : SolveState = g.S.Solve.state c.search_under.new.s in
    turn-found s0 s1 s2 c.args.objective.now.term c.args.below c.args.objective.now.assume.now c.in-Ok.selector
    c.requires.kept.problem
    c.requires.term c.requires.literals c.in-Ok.ensures.made.0 c.in-Ok.ensures.made.1
    c.in-Ok-Some.field-0 c.in-Ok-Some.found c.in-Ok-Some.field-0-is c.in-Ok-Some.ensures.finds

pub returns-in-Ok-Some-clause-adds : goal.returns-in-Ok-Some-clause-adds
returns-in-Ok-Some-clause-adds g c =
    let s0 : SolveState = g.S.Solve.state c.args.s.now in
    let s1 : SolveState = g.S.Solve.state c.bound.new.s in
    let s2 : SolveState = g.S.Solve.state c.search_under.new.s in
    turn-adds s0 s1 s2 c.args.objective.now.term c.args.below c.args.objective.now.assume.now c.in-Ok.selector
    c.requires.kept.problem
    c.requires.term c.requires.literals c.in-Ok.ensures.made.0 c.in-Ok.ensures.made.1
    c.search_under.ensures.stays c.args.selectors.now.items c.bound.new.selectors.items c.in-Ok.ensures.made.2

pub returns-in-Ok-None-clause-finds : goal.returns-in-Ok-None-clause-finds
returns-in-Ok-None-clause-finds g c =
    let s0 : SolveState = g.S.Solve.state c.args.s.now in
    let s1 : SolveState = g.S.Solve.state c.bound.new.s in
    let s2 : SolveState = g.S.Solve.state c.search_under.new.s in
    turn-nothing s0 s1 s2 c.args.objective.now.term c.args.below c.args.objective.now.assume.now c.in-Ok.selector
    c.requires.kept.problem
    c.requires.term c.requires.literals c.in-Ok.ensures.made.0 c.in-Ok.ensures.made.1
    c.in-Ok-None.field-0 c.in-Ok-None.field-0-is c.in-Ok-None.ensures.finds c.search_under.ensures.stays

pub returns-in-Ok-None-clause-adds : goal.returns-in-Ok-None-clause-adds
returns-in-Ok-None-clause-adds g c =
    let s0 : SolveState = g.S.Solve.state c.args.s.now in
    let s1 : SolveState = g.S.Solve.state c.bound.new.s in
    let s2 : SolveState = g.S.Solve.state c.search_under.new.s in
    turn-adds s0 s1 s2 c.args.objective.now.term c.args.below c.args.objective.now.assume.now c.in-Ok.selector
    c.requires.kept.problem
    c.requires.term c.requires.literals c.in-Ok.ensures.made.0 c.in-Ok.ensures.made.1
    c.search_under.ensures.stays c.args.selectors.now.items c.bound.new.selectors.items c.in-Ok.ensures.made.2

pub returns-in-Err-clause-adds : goal.returns-in-Err-clause-adds
returns-in-Err-clause-adds g c =
    let s0 : SolveState = g.S.Solve.state c.args.s.now in
    let s1 : SolveState = g.S.Solve.state c.bound.new.s in
    let s2 : SolveState = g.S.Solve.state c.search_under.new.s in
    turn-adds s0 s1 s2 c.args.objective.now.term c.args.below c.args.objective.now.assume.now c.in-Ok.selector
    c.requires.kept.problem
    c.requires.term c.requires.literals c.in-Ok.ensures.made.0 c.in-Ok.ensures.made.1
    c.search_under.ensures.stays c.args.selectors.now.items c.bound.new.selectors.items c.in-Ok.ensures.made.2

pub returns-in_default-clause-adds : goal.returns-in_default-clause-adds
returns-in_default-clause-adds g c = turn-none (g.S.Solve.state c.args.s.now) (g.S.Solve.state c.bound.new.s)
    c.args.objective.now.term c.args.below c.args.selectors.now.items c.bound.new.selectors.items
    c.in_default.ensures.same.0
    c.in_default.ensures.same.1

pub returns-in-Ok-Some-clause-keeps : goal.returns-in-Ok-Some-clause-keeps
returns-in-Ok-Some-clause-keeps g c = turn-keeps (g.S.Solve.state c.args.s.now) (g.S.Solve.state c.bound.new.s)
    (g.S.Solve.state c.search_under.new.s) c.args.budget.now c.search_under.new.budget c.args.objective.now.term
    c.args.below
    c.in-Ok.ensures.made.1 c.requires.budget c.search_under.ensures.keeps

pub returns-in-Ok-None-clause-keeps : goal.returns-in-Ok-None-clause-keeps
returns-in-Ok-None-clause-keeps g c = turn-keeps (g.S.Solve.state c.args.s.now) (g.S.Solve.state c.bound.new.s)
    (g.S.Solve.state c.search_under.new.s) c.args.budget.now c.search_under.new.budget c.args.objective.now.term
    c.args.below
    c.in-Ok.ensures.made.1 c.requires.budget c.search_under.ensures.keeps

pub returns-in-Err-clause-keeps : goal.returns-in-Err-clause-keeps
returns-in-Err-clause-keeps g c = turn-keeps (g.S.Solve.state c.args.s.now) (g.S.Solve.state c.bound.new.s)
    (g.S.Solve.state c.search_under.new.s) c.args.budget.now c.search_under.new.budget c.args.objective.now.term
    c.args.below
    c.in-Ok.ensures.made.1 c.requires.budget c.search_under.ensures.keeps

pub returns-in_default-clause-keeps : goal.returns-in_default-clause-keeps
returns-in_default-clause-keeps g c =
    let s : SolveState = g.S.Solve.state c.args.s.now in
    subst (λ (t : SolveState). Keeps s t c.args.budget.now c.args.budget.now) (sym c.in_default.ensures.same.0)
    (keeps-none s c.args.budget.now c.requires.budget)
