use Rattle.std.proofs.Common.{rules, ◌≡◌, IfOk, FitsSigned, w64, length, sym, ap, subst, ◌∙◌}
use Rattle.std.proofs.lemmas.Int.{to_z-of_z}
use Rattle.term_values.specs.Rows.{map_rows}
use Rattle.def_ground.specs.Answers.{GroundResult, Makes}
use Rattle.def_ground.specs.Comparisons.{comparison_of}
use Rattle.def_ground.specs.LinearViews.{linear_view}
use Rattle.def_ground.specs.SumSides.{raised}
use Rattle.ground_walk.proofs.LeafSteps.{no-parts}
use Rattle.ground_walk.proofs.leaves.compare_sides.Goals as goal

pub returns-then-is_empty-clause-made : goal.returns-then-is_empty-clause-made
returns-then-is_empty-clause-made c =
    let xs = c.args.left.now in
    let ys = c.args.right.now in
    let st = linear_view c.args.linear.now c.args.problem.now in
    let none : length st.parts ≡ 0 = search rules in
    let fits : FitsSigned w64 c.args.linear.now.base = search rules in
    let back = to_z-of_z w64 c.args.linear.now.base fits in
    subst (λ (g : GroundResult). IfOk c.compare_rows.result (λ a. Makes g a c.compare_rows.new.problem))
    (ap (λ w. comparison_of c.args.cmp (map_rows (raised w) xs) ys c.args.problem.now) back
    ∙ sym (no-parts c.args.cmp st xs ys none)) c.compare_rows.ensures.made
