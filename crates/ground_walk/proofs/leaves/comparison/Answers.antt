use Rattle.std.proofs.Common.{IfOk, ap, subst, ◌∙◌}
use Rattle.plain_evaluation.specs.Environments.{env_view}
use Rattle.kb_logic.specs.Views.{term_view}
use Rattle.term_values.specs.Rows.{rows_of_term}
use Rattle.def_ground.specs.Answers.{GroundResult, Makes}
use Rattle.def_ground.specs.Comparisons.{comparison_of}
use Rattle.ground_walk.proofs.LeafSteps.{rows-in, none-raised}
use Rattle.ground_walk.proofs.leaves.comparison.Goals as goal

pub compare_rows-requires-clause-left : goal.compare_rows-requires-clause-left
compare_rows-requires-clause-left c =
    rw c.in_ok-left_rows.ensures
    (rows-in c.args.scope.base.now (term_view c.args.sides.left.now) (env_view c.args.scope.env.now) c.args.problem.now c.requires.given
    c.requires.room)

pub compare_rows-requires-clause-right : goal.compare_rows-requires-clause-right
compare_rows-requires-clause-right c =
    rw c.in_ok-right_rows.ensures
    (rows-in c.args.scope.base.now (term_view c.args.sides.right.now) (env_view c.args.scope.env.now) c.args.problem.now c.requires.given
    c.requires.room)

pub returns-clause-made : goal.returns-clause-made
returns-clause-made c =
    let cmp = c.args.sides.cmp in
    let p = c.args.problem.now in
    let left = rows_of_term c.args.scope.base.now (term_view c.args.sides.left.now) (env_view c.args.scope.env.now) in
    subst (λ (g : GroundResult). IfOk c.compare_rows.result (λ a. Makes g a c.compare_rows.new.problem))
    (ap (λ xs. comparison_of cmp xs c.in_ok-right_rows.right_rows p)
    (none-raised c.in_ok-left_rows.left_rows ∙ c.in_ok-left_rows.ensures)
    ∙ ap (λ ys. comparison_of cmp left ys p) c.in_ok-right_rows.ensures) c.compare_rows.ensures.made
