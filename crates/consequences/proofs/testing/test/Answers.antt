use Rattle.std.proofs.Common.{◌++◌, ◌∷◌, [], List, Contains, Ok, refl, ap, ◌∙◌, subst, inl}
use Rattle.lit_core.specs.declared.literals.Lit.{Lit}
use Rattle.ground_core.specs.declared.solving.Verdict.{Verdict}
use Rattle.ground_core.specs.declared.solving.Verdict.TheVariants.{Sat, Unsat}
use Rattle.ground_core.specs.Solving.{SolveState, Answers, KeepsCores}
use Rattle.consequences.specs.Forced.{IsWithout}
use Rattle.consequences.proofs.TestFacts.{test-free, test-forced}
use Rattle.consequences.proofs.testing.test.Goals as goal

pub solve-requires-clause-unretired : goal.solve-requires-clause-unretired
solve-requires-clause-unretired g c = λ l a b.
    c.requires.unretired l a (subst (λ (xs : List Lit). Contains xs l) (c.as_slice.ensures.value ∙ c.in-Ok.ensures
    ∙ ap (λ (k : Lit). c.args.assume.now ++ k ∷ []) c.negated.ensures) b)

pub returns-in-Ok-Sat-clause-tests : goal.returns-in-Ok-Sat-clause-tests
returns-in-Ok-Sat-clause-tests g c =
    let s : SolveState = g.S.Solve.state c.args.s.now in
    let is = c.as_slice.ensures.value ∙ c.in-Ok.ensures ∙ ap (λ (k : Lit). c.args.assume.now ++ k ∷ [])
    c.negated.ensures in
    test-free s.problem c.args.assume.now c.args.lit c.in-Ok-Sat.values
    (subst (λ (ls : List Lit). Answers s.problem ls (Sat c.in-Ok-Sat.values)) is
    (subst (λ (w : Verdict). Answers s.problem c.as_slice.result.now w) c.in-Ok-Sat.field-0-is
    c.in-Ok-Sat.ensures.verdict))

pub returns-in-Ok-without-clause-tests : goal.returns-in-Ok-without-clause-tests
returns-in-Ok-without-clause-tests g c =
    let s : SolveState = g.S.Solve.state c.args.s.now in
    let t : SolveState = g.S.Solve.state c.solve.new.self in
    let is = c.as_slice.ensures.value ∙ c.in-Ok.ensures ∙ ap (λ (k : Lit). c.args.assume.now ++ k ∷ [])
    c.negated.ensures in
    let answers = subst (λ (ls : List Lit). Answers s.problem ls (Unsat c.in-Ok-Unsat.core)) is
    (subst (λ (w : Verdict). Answers s.problem c.as_slice.result.now w) c.in-Ok-Unsat.field-0-is
    c.in-Ok-Unsat.ensures.verdict) in
    let keeps = subst (λ (w : Verdict). KeepsCores s.cores (Ok w) t.cores) c.in-Ok-Unsat.field-0-is
    c.in-Ok-Unsat.ensures.cores in
    let w = subst (λ (k : Lit). IsWithout k c.in-Ok-Unsat.core c.in-Ok-without.support) c.negated-in-Ok-Unsat.ensures
    (subst (λ (ls : List Lit). IsWithout c.negated-in-Ok-Unsat.result ls c.in-Ok-without.support)
    c.as_slice-in-Ok-Unsat.ensures c.in-Ok-without.ensures) in
    let all = test-forced s.problem c.args.assume.now c.args.lit c.in-Ok-Unsat.core c.in-Ok-without.support s.cores
    t.cores w answers keeps in
    (refl, record { among = all.0; forces = all.1; shown = inl all.2 })
