use Rattle.std.proofs.Common.{◌≤◌, IfOk, map, length, sym, subst, arith}
use Rattle.std.proofs.lemmas.Result.{IfOk-weaker}
use Rattle.ground_core.specs.Problems.{ProblemState}
use Rattle.term_values.specs.Rows.{map_rows}
use Rattle.def_ground.specs.Answers.{GroundResult, Makes}
use Rattle.def_ground.specs.Cases.{cases_of}
use Rattle.def_ground.specs.Comparisons.{guard_answers as answers_of_guards, comparison_case}
use Rattle.def_ground.specs.SumSides.{raised}
use Rattle.def_ground.proofs.SumSides.{raised-within}
use Rattle.ground_walk.proofs.LeafSteps.{comparison-by-rows, comparison-cases-in, guards-grow}
use Rattle.ground_walk.proofs.leaves.compare_rows.Goals as goal

pub answer_of_cases-requires : goal.answer_of_cases-requires
answer_of_cases-requires c =
    rw (
      c.as_slice-2.ensures.value,
      c.in_ok-cases.ensures,
      c.as_slice.ensures.value,
      c.in_ok-values.ensures.rows,
      c.in_ok-values.ensures.problem,
    ) (comparison-cases-in c.args.rows.cmp c.args.problem.now
    (map_rows (raised c.args.rows.base) c.args.rows.left.now) c.args.rows.right.now
    (raised-within c.args.problem.now.vars c.args.rows.base c.args.rows.left.now c.requires.left) c.requires.right)

pub returns-clause-made : goal.returns-clause-made
returns-clause-made c =
    let cmp = c.args.rows.cmp in
    let p = c.args.problem.now in
    let w = c.args.rows.base in
    let xs = c.args.rows.left.now in
    let ys = c.args.rows.right.now in
    let q = c.answer_of_cases.new.problem in
    let some : 1 ≤ length xs = omega (arith, c.if-len-eq0.false, c.len.ensures) in
    let made : IfOk c.answer_of_cases.result
    (λ a. Makes (cases_of (map (comparison_case cmp (answers_of_guards ys p).rows) (map_rows (raised w) xs))
    (answers_of_guards ys p).problem) a q) =
    rw (
      c.as_slice-2.ensures.value,
      c.in_ok-cases.ensures,
      c.as_slice.ensures.value,
      c.in_ok-values.ensures.rows,
      c.in_ok-values.ensures.problem,
    ) at c.answer_of_cases.ensures.made in
    subst (λ (g : GroundResult). IfOk c.answer_of_cases.result (λ a. Makes g a q))
    (sym (comparison-by-rows cmp p w xs ys some)) made

pub returns-clause-grows : goal.returns-clause-grows
returns-clause-grows c =
    let grown = guards-grow c.args.problem.now c.args.rows.right.now c.requires.right in
    let more : c.args.problem.now.vars ≤ c.guard_answers.new.problem.vars = subst
    (λ (q : ProblemState). c.args.problem.now.vars ≤ q.vars) (sym c.in_ok-values.ensures.problem) grown.vars in
    IfOk-weaker c.answer_of_cases.result _ _ (λ a g. record { vars = omega (arith, more, g.vars); within = g.within })
    c.answer_of_cases.ensures.grows
