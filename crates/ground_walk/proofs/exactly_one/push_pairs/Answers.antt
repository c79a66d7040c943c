use Rattle.std.proofs.Common.{suc, List, [], ◌∷◌, map, sym, ap, subst, ◌∙◌, arith}
use Rattle.lit_core.specs.declared.literals.Lit.{Lit}
use Rattle.lit_core.specs.Literals.{negated}
use Rattle.ground_core.specs.Problems.{ProblemState, AreLitsOf}
use Rattle.def_ground.specs.Problems.{pair_clauses}
use Rattle.def_ground.specs.Cases.{with_clauses}
use Rattle.def_ground.proofs.WithClauses.{with_more}
use Rattle.ground_walk.proofs.exactly_one.push_pairs.Goals as goal

pub loop-first-preserved : goal.loop-first-preserved
loop-first-preserved c =
    let p : ProblemState = c.loop-first.problem in
    let first : Lit = c.in-Some.first.now in
    let others : List Lit = c.in-Some.others.now in
    let parts = c.in-Some.ensures.cases.0 in
    let pushed = c.in_ok-push_pairs_with.ensures in
    let before : AreLitsOf p.vars (first ∷ others) = subst (AreLitsOf p.vars) parts c.loop-first.invariant.within in
    let rest : AreLitsOf p.vars others = λ k d lt. before (suc k) d (omega (arith, lt)) in
    record {
      all = ap (λ q. with_clauses q (pair_clauses others)) pushed
          ∙ with_more p (map (λ (m : Lit). negated first ∷ negated m ∷ []) others) (pair_clauses others)
          ∙ ap (λ ls. with_clauses p (pair_clauses ls)) (sym parts) ∙ c.loop-first.invariant.all;
      within = subst (λ (q : ProblemState). AreLitsOf q.vars others) (sym pushed) rest;
    }
