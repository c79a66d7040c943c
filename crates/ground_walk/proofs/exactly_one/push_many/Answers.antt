use Rattle.std.proofs.Common.{suc, ◌∷◌, sym, subst, arith}
use Rattle.lit_core.specs.declared.literals.Lit.{Lit}
use Rattle.ground_core.specs.Problems.{ProblemState, AreLitsOf}
use Rattle.ground_walk.proofs.exactly_one.push_many.Goals as goal

pub push_at_most_one-requires-clause-second : goal.push_at_most_one-requires-clause-second
push_at_most_one-requires-clause-second c =
    let p : ProblemState = c.args.problem.now in
    let first : Lit = c.in-Some.first.now in
    let others = c.in-Some.others.now in
    let before : AreLitsOf p.vars (first ∷ others) = subst (AreLitsOf p.vars) c.in-Some.ensures.cases.0 c.requires in
    let rest : AreLitsOf p.vars others = λ k d lt. before (suc k) d (omega (arith, lt)) in
    subst (λ (q : ProblemState). AreLitsOf q.vars others) (sym c.in_ok-push_pairs_with.ensures) rest
