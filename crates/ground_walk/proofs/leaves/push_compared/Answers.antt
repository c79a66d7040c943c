use Rattle.std.proofs.Common.{◌≡◌, ◌≤◌, OnOk, map, length, sym, subst, arith}
use Rattle.ground_core.specs.Problems.{ProblemState}
use Rattle.term_values.specs.Rows.{map_rows}
use Rattle.def_ground.specs.CaseSentences.{assert_cases}
use Rattle.def_ground.specs.Comparisons.{guard_answers as answers_of_guards, comparison_case}
use Rattle.def_ground.proofs.Growing.{lits-more}
use Rattle.def_ground.specs.SumSides.{raised}
use Rattle.def_ground.proofs.SumSides.{raised-within}
use Rattle.ground_walk.proofs.LeafSteps.{asserted-by-rows, comparison-cases-in, guards-grow, on-ok}
use Rattle.ground_walk.proofs.leaves.push_compared.Goals as goal

pub push_cases-requires-clause-lits : goal.push_cases-requires-clause-lits
push_cases-requires-clause-lits c =
    let p = c.args.problem.now in
    let q = c.guard_answers.new.problem in
    let grown = guards-grow p c.args.rows.right.now c.requires.right in
    let more : p.vars ≤ q.vars =
    subst (λ (r : ProblemState). p.vars ≤ r.vars) (sym c.in_ok-values.ensures.problem) grown.vars in
    lits-more p.vars q.vars more c.args.lits.now c.requires.lits

pub push_cases-requires-clause-cases : goal.push_cases-requires-clause-cases
push_cases-requires-clause-cases c =
    rw (
      c.as_slice-2.ensures.value,
      c.in_ok-cases.ensures,
      c.as_slice.ensures.value,
      c.in_ok-values.ensures.rows,
      c.in_ok-values.ensures.problem,
    ) (comparison-cases-in c.args.rows.cmp c.args.problem.now
    (map_rows (raised c.args.rows.base) c.args.rows.left.now) c.args.rows.right.now
    (raised-within c.args.problem.now.vars c.args.rows.base c.args.rows.left.now c.requires.left) c.requires.right)

pub returns-clause-made : goal.returns-clause-made
returns-clause-made c =
    let cmp = c.args.rows.cmp in
    let sign = c.args.sign in
    let ls = c.args.lits.now in
    let p = c.args.problem.now in
    let w = c.args.rows.base in
    let xs = c.args.rows.left.now in
    let ys = c.args.rows.right.now in
    let q = c.push_cases.new.problem in
    let some : 1 ≤ length xs = omega (arith, c.if-len-eq0.false, c.len.ensures) in
    let made : OnOk c.push_cases.result
    (q ≡ assert_cases sign ls (map (comparison_case cmp (answers_of_guards ys p).rows) (map_rows (raised w) xs))
    (answers_of_guards ys p).problem) =
    rw (
      c.as_slice-2.ensures.value,
      c.in_ok-cases.ensures,
      c.as_slice.ensures.value,
      c.in_ok-values.ensures.rows,
      c.in_ok-values.ensures.problem,
    ) at c.push_cases.ensures.made in
    subst (λ (r : ProblemState). OnOk c.push_cases.result (q ≡ r))
    (sym (asserted-by-rows sign cmp ls p w xs ys some)) made

pub returns-clause-grows : goal.returns-clause-grows
returns-clause-grows c =
    let p = c.args.problem.now in
    let q = c.guard_answers.new.problem in
    let grown = guards-grow p c.args.rows.right.now c.requires.right in
    let more : p.vars ≤ q.vars =
    subst (λ (r : ProblemState). p.vars ≤ r.vars) (sym c.in_ok-values.ensures.problem) grown.vars in
    on-ok c.push_cases.result (λ same. omega (arith, more, same)) c.push_cases.ensures.vars
