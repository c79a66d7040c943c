use Rattle.std.proofs.Common.{◌≡◌, OnOk, ap, subst, ◌∙◌}
use Rattle.plain_evaluation.specs.Environments.{env_view}
use Rattle.kb_logic.specs.Views.{term_view}
use Rattle.ground_core.specs.Problems.{ProblemState}
use Rattle.term_values.specs.Rows.{rows_of_term}
use Rattle.def_ground.specs.CaseSentences.{assert_comparison}
use Rattle.ground_walk.proofs.LeafSteps.{rows-in, none-raised}
use Rattle.ground_walk.proofs.leaves.push_comparison.Goals as goal

pub push_compared-requires-clause-left : goal.push_compared-requires-clause-left
push_compared-requires-clause-left c =
    rw c.in_ok-left_rows.ensures
    (rows-in c.args.scope.base.now (term_view c.args.sides.left.now) (env_view c.args.scope.env.now) c.args.problem.now c.requires.given
    c.requires.room)

pub push_compared-requires-clause-right : goal.push_compared-requires-clause-right
push_compared-requires-clause-right c =
    rw c.in_ok-right_rows.ensures
    (rows-in c.args.scope.base.now (term_view c.args.sides.right.now) (env_view c.args.scope.env.now) c.args.problem.now c.requires.given
    c.requires.room)

pub returns-clause-made : goal.returns-clause-made
returns-clause-made c =
    let sign = c.args.sign in
    let cmp = c.args.sides.cmp in
    let ls = c.args.lits.now in
    let p = c.args.problem.now in
    let left = rows_of_term c.args.scope.base.now (term_view c.args.sides.left.now) (env_view c.args.scope.env.now) in
    subst (λ (r : ProblemState). OnOk c.push_compared.result (c.push_compared.new.problem ≡ r))
    (ap (λ xs. assert_comparison sign cmp xs c.in_ok-right_rows.right_rows ls p)
    (none-raised c.in_ok-left_rows.left_rows ∙ c.in_ok-left_rows.ensures)
    ∙ ap (λ ys. assert_comparison sign cmp left ys ls p) c.in_ok-right_rows.ensures) c.push_compared.ensures.made
