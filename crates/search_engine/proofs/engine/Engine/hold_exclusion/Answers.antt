use Rattle.std.proofs.Common.{◌≡◌, ◌+◌, ◌∷◌, ◌++◌, [], ℕ, List, length, sym, ap, ◌∙◌, subst, arith, true}
use Rattle.std.proofs.lemmas.List.Elements.{All-contains, Contains-push}
use Rattle.lit_core.specs.declared.literals.Lit.{Lit}
use Rattle.lit_core.specs.Literals.{negated}
use Rattle.ground_core.specs.Problems.{ProblemState, AreLitsOf}
use Rattle.ground_core.specs.Growth.{falsified_by, next_lit}
use Rattle.ground_core.proofs.GrowthFacts.{exclusion-problem}
use Rattle.search_engine.proofs.engine.Engine.hold_exclusion.Goals as goal

pub hold_last-requires-clause-lits : goal.hold_last-requires-clause-lits
hold_last-requires-clause-lits c =
    let q : ProblemState = c.make_room.new.self.problem in
    let vs = c.args.values.now in
    let e : List Lit = negated (next_lit q) ∷ falsified_by vs (length q.atoms) in
    let fine = exclusion-problem q vs c.make_room.ensures.resting.engine.problem in
    let lits : AreLitsOf (q.vars + 1) e = All-contains (AreLitsOf (q.vars + 1)) (q.clauses ++ e ∷ []) e fine.clauses
    (Contains-push q.clauses e) in
    let vars : q.vars ≡ c.args.self.now.problem.vars = ap (λ (p : ProblemState). p.vars)
    c.make_room.ensures.reserves.problem in
    let var : c.in-Some.var ≡ q.vars + 1 = omega (arith, c.in-Some.ensures, c.vars.ensures.value, vars) in
    let same : c.as_slice.result.now ≡ e =
    c.as_slice.ensures ∙ c.in_ok-clause.ensures
    ∙ (ap (λ (n : ℕ). negated (record { var = record { 0 = n }; positive = true }) ∷ falsified_by vs
    c.atom_count-atoms.result) var
    ∙ ap (λ (n : ℕ). negated (next_lit q) ∷ falsified_by vs n) c.atom_count-atoms.ensures) in
    subst (AreLitsOf (q.vars + 1)) (sym same) lits
