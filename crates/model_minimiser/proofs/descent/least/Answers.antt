use Rattle.std.proofs.Common.{sym, subst}
use Rattle.ground_core.specs.Problems.{ProblemState, IsProblem}
use Rattle.model_minimiser.specs.Minima.{Spans}
use Rattle.ground_core.specs.Solving.{SolveState}
use Rattle.ground_core.specs.Calls.{Keeps, GrowsByAdditions}
use Rattle.ground_core.proofs.AdditionFacts.{nothing-added}
use Rattle.ground_core.proofs.CallFacts.{keeps-twice, cost-once}
use Rattle.model_minimiser.proofs.BoundFacts.{bounds-grow}
use Rattle.model_minimiser.proofs.DescentFacts.{adds-after, costs-below}
use Rattle.model_minimiser.proofs.descent.least.Goals as goal

pub returns-in-Ok-clause-adds : goal.returns-in-Ok-clause-adds
returns-in-Ok-clause-adds g c =
    let r : SolveState = g.S.Solve.state c.args.s.now in
    let s : SolveState = g.S.Solve.state c.search.new.s in
    let t : SolveState = g.S.Solve.state c.descend.new.s in
    adds-after c.args.assume.now c.args.term r s t c.search.ensures.stays c.descend.ensures.adds

pub returns-in-Ok-clause-keeps : goal.returns-in-Ok-clause-keeps
returns-in-Ok-clause-keeps g c =
    let r : SolveState = g.S.Solve.state c.args.s.now in
    let s : SolveState = g.S.Solve.state c.search.new.s in
    let t : SolveState = g.S.Solve.state c.descend.new.s in
    keeps-twice r s t c.args.budget.now c.search.new.budget c.descend.new.budget c.search.ensures.keeps
    c.descend.ensures.keeps

pub returns-in-Ok-clause-costs : goal.returns-in-Ok-clause-costs
returns-in-Ok-clause-costs g c = λ n spans.
    let r : SolveState = g.S.Solve.state c.args.s.now in
    let s : SolveState = g.S.Solve.state c.search.new.s in
    let t : SolveState = g.S.Solve.state c.descend.new.s in
    let both : Keeps r t c.args.budget.now c.descend.new.budget =
    keeps-twice r s t c.args.budget.now c.search.new.budget c.descend.new.budget c.search.ensures.keeps
    c.descend.ensures.keeps in
    costs-below n r s t c.args.budget.now c.search.new.budget c.descend.new.budget c.search.ensures.stays.free
    c.search.ensures.counts (c.descend.ensures.counts n (subst (λ (p : ProblemState). Spans p c.args.term n)
    (sym c.search.ensures.stays.problem) spans)) both.rises

pub returns-in-Err-descend-clause-adds : goal.returns-in-Err-descend-clause-adds
returns-in-Err-descend-clause-adds g c =
    let r : SolveState = g.S.Solve.state c.args.s.now in
    let s : SolveState = g.S.Solve.state c.search.new.s in
    let t : SolveState = g.S.Solve.state c.descend.new.s in
    adds-after c.args.assume.now c.args.term r s t c.search.ensures.stays c.descend.ensures.adds

pub returns-in-Err-descend-clause-keeps : goal.returns-in-Err-descend-clause-keeps
returns-in-Err-descend-clause-keeps g c =
    let r : SolveState = g.S.Solve.state c.args.s.now in
    let s : SolveState = g.S.Solve.state c.search.new.s in
    let t : SolveState = g.S.Solve.state c.descend.new.s in
    keeps-twice r s t c.args.budget.now c.search.new.budget c.descend.new.budget c.search.ensures.keeps
    c.descend.ensures.keeps

pub returns-in-Err-descend-clause-costs : goal.returns-in-Err-descend-clause-costs
returns-in-Err-descend-clause-costs g c = λ n spans.
    let r : SolveState = g.S.Solve.state c.args.s.now in
    let s : SolveState = g.S.Solve.state c.search.new.s in
    let t : SolveState = g.S.Solve.state c.descend.new.s in
    let both : Keeps r t c.args.budget.now c.descend.new.budget =
    keeps-twice r s t c.args.budget.now c.search.new.budget c.descend.new.budget c.search.ensures.keeps
    c.descend.ensures.keeps in
    costs-below n r s t c.args.budget.now c.search.new.budget c.descend.new.budget c.search.ensures.stays.free
    c.search.ensures.counts (c.descend.ensures.counts n (subst (λ (p : ProblemState). Spans p c.args.term n)
    (sym c.search.ensures.stays.problem) spans)) both.rises

pub returns-in-Ok-None-clause-costs : goal.returns-in-Ok-None-clause-costs
returns-in-Ok-None-clause-costs g c = λ n spans.
    let r : SolveState = g.S.Solve.state c.args.s.now in
    let s : SolveState = g.S.Solve.state c.search.new.s in
    cost-once n r s c.args.budget.now c.search.new.budget c.search.ensures.counts c.search.ensures.keeps.rises

pub returns-in-Err-clause-costs : goal.returns-in-Err-clause-costs
returns-in-Err-clause-costs g c = λ n spans.
    let r : SolveState = g.S.Solve.state c.args.s.now in
    let s : SolveState = g.S.Solve.state c.search.new.s in
    cost-once n r s c.args.budget.now c.search.new.budget c.search.ensures.counts c.search.ensures.keeps.rises

pub returns-in-Ok-clause-grows : goal.returns-in-Ok-clause-grows
returns-in-Ok-clause-grows g c =
    let r : SolveState = g.S.Solve.state c.args.s.now in
    let s : SolveState = g.S.Solve.state c.search.new.s in
    let t : SolveState = g.S.Solve.state c.descend.new.s in
    bounds-grow c.args.assume.now c.args.term r t c.requires.term
    (subst IsProblem c.search.ensures.stays.problem c.search.ensures.kept.problem)
    (adds-after c.args.assume.now c.args.term r s t c.search.ensures.stays c.descend.ensures.adds)

pub returns-in-Err-descend-clause-grows : goal.returns-in-Err-descend-clause-grows
returns-in-Err-descend-clause-grows g c =
    let r : SolveState = g.S.Solve.state c.args.s.now in
    let s : SolveState = g.S.Solve.state c.search.new.s in
    let t : SolveState = g.S.Solve.state c.descend.new.s in
    bounds-grow c.args.assume.now c.args.term r t c.requires.term
    (subst IsProblem c.search.ensures.stays.problem c.search.ensures.kept.problem)
    (adds-after c.args.assume.now c.args.term r s t c.search.ensures.stays c.descend.ensures.adds)

pub returns-in-Ok-None-clause-grows : goal.returns-in-Ok-None-clause-grows
returns-in-Ok-None-clause-grows g c =
    let r : SolveState = g.S.Solve.state c.args.s.now in
    subst (λ (q : ProblemState). GrowsByAdditions r.problem q) (sym c.search.ensures.stays.problem)
    (nothing-added r.problem)

pub returns-in-Err-clause-grows : goal.returns-in-Err-clause-grows
returns-in-Err-clause-grows g c =
    let r : SolveState = g.S.Solve.state c.args.s.now in
    subst (λ (q : ProblemState). GrowsByAdditions r.problem q) (sym c.search.ensures.stays.problem)
    (nothing-added r.problem)
