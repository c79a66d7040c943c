use Rattle.std.proofs.Common.{◌≡◌, ◌+◌, List, sym, subst}
use Rattle.lit_core.specs.declared.literals.Lit.{Lit}
use Rattle.ground_core.specs.Solving.{SolveState}
use Rattle.model_search.specs.Retirements.{AreNew, retired_all}
use Rattle.model_minimiser.proofs.BoundFacts.{end-adds, end-counts, selectors-new}
use Rattle.model_minimiser.proofs.descent.descend.Goals as goal

pub retire_each-requires-clause-new : goal.retire_each-requires-clause-new
retire_each-requires-clause-new g c =
    let r : SolveState = g.S.Solve.state c.args.s.now in
    let s : SolveState = g.S.Solve.state c.lower_all-told.new.s in
    subst (AreNew s.problem.retired) (sym c.as_slice.ensures.value)
    (selectors-new c.args.objective.now.assume.now c.args.objective.now.term r s s c.lower_all-told.new.selectors.items
    c.lower_all-told.ensures.bounds c.requires.kept.problem)

pub returns-clause-adds : goal.returns-clause-adds
returns-clause-adds g c =
    let r : SolveState = g.S.Solve.state c.args.s.now in
    let s : SolveState = g.S.Solve.state c.lower_all-told.new.s in
    let t : SolveState = g.S.Solve.state c.retire_each.new.s in
    end-adds c.args.objective.now.assume.now c.args.objective.now.term r s t c.lower_all-told.new.selectors.items
    c.lower_all-told.ensures.bounds
    (subst (λ (ls : List Lit). t ≡ retired_all s ls) c.as_slice.ensures.value c.retire_each.ensures.retired)

pub returns-clause-counts : goal.returns-clause-counts
returns-clause-counts g c = λ n spans.
    let r : SolveState = g.S.Solve.state c.args.s.now in
    let s : SolveState = g.S.Solve.state c.lower_all-told.new.s in
    let t : SolveState = g.S.Solve.state c.retire_each.new.s in
    end-counts c.args.objective.now.assume.now c.args.objective.now.term r s t c.lower_all-told.new.selectors.items
    c.lower_all-told.ensures.bounds
    (subst (λ (ls : List Lit). t ≡ retired_all s ls) c.as_slice.ensures.value c.retire_each.ensures.retired)
    c.args.budget.now c.lower_all-told.new.budget (r.free + (n + 2)) (n + 2) (c.lower_all-told.ensures.counts n spans)
