use Rattle.std.proofs.Common.{rules, [], ◌∷◌, ◌++◌, map, take, FitsSigned, w64, sym, ap, ◌∙◌}
use Rattle.std.proofs.lemmas.Int.{to_z-of_z}
use Rattle.std.proofs.lemmas.List.{map-append}
use Rattle.kb_logic.specs.Values.{value_view}
use Rattle.term_values.specs.Rows.{map_rows}
use Rattle.def_ground.specs.Comparisons.{comparison_case}
use Rattle.def_ground.specs.CaseViews.{case_view, guarded_view}
use Rattle.def_ground.specs.SumSides.{raised}
use Rattle.ground_walk.proofs.LeafSteps.{next-raised}
use Rattle.ground_walk.proofs.leaves.comparison_cases.Goals as goal

pub loop-row-preserved : goal.loop-row-preserved
loop-row-preserved c =
    let rows = c.args.rows.left.now in
    let base = c.args.rows.base in
    let k = c.loop-row.row in
    let g = c.guards.result.now in
    let x = value_view c.value.result in
    let fits : FitsSigned w64 base = search rules in
    let back = to_z-of_z w64 base fits in
    let C = comparison_case c.args.rows.cmp (map guarded_view c.args.right.now) in
    ap (map case_view) c.in_ok-push.ensures.items
    ∙ map-append case_view c.loop-row.cases.items (c.in_ok-case.case ∷ [])
    ∙ ap (λ cs. cs ++ case_view c.in_ok-case.case ∷ []) c.loop-row.invariant
    ∙ ap (λ v. map C (map_rows (raised base) (take k rows)) ++ v ∷ [])
    (c.in_ok-case.ensures ∙ ap (λ d. C (g, d)) c.in_ok-value.ensures ∙ ap (λ w. C (g, raised w x)) back)
    ∙ sym (next-raised C base rows k g x c.guards.ensures c.value.ensures)
