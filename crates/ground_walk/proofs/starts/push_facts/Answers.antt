use Rattle.std.proofs.Common.{◌≡◌, ◌<◌, ◌+◌, suc, ℕ, Bool, Option, None, length, take, slice_get, unwrap_or, ◌++◌, sym}
use Rattle.std.proofs.Common.{ap, ◌∙◌, arith}
use Rattle.ground_core.specs.Problems.{ProblemState}
use Rattle.term_values.specs.GroundBases.{known_of}
use Rattle.def_ground.specs.Cases.{with_clauses}
use Rattle.def_ground.specs.Problems.{fact_clause, fact_clauses}
use Rattle.def_ground.proofs.WithClauses.{with_more}
use Rattle.ground_walk.proofs.StartSteps.{next-fact}
use Rattle.ground_walk.proofs.starts.push_facts.Goals as goal

pub loop-place-preserved : goal.loop-place-preserved
loop-place-preserved c =
    let b = c.args.base.now in
    let p = c.args.problem.now in
    let k = c.loop-place.place in
    let before = fact_clauses 1 (take k b.known) in
    let h : k < length b.known = omega (arith, c.loop-place-test.true, c.atoms-place-end.ensures.atoms) in
    let next : k + 1 ≡ suc k = omega arith in
    let number : k + 1 ≡ 1 + k = omega arith in
    let cs = fact_clause (k + 1) c.known.result in
    c.in_ok-push_fact.ensures ∙ ap (λ (q : ProblemState). with_clauses q cs) c.loop-place.invariant
    ∙ with_more p before cs
    ∙ ap (λ (o : Option Bool). with_clauses p (before ++ fact_clause (k + 1) o)) (c.known.ensures
    ∙ ap (known_of b) next)
    ∙ ap (λ (n : ℕ). with_clauses p (before ++ fact_clause n (unwrap_or (slice_get b.known k) None))) number
    ∙ ap (with_clauses p) (sym (next-fact 1 k b.known h))
