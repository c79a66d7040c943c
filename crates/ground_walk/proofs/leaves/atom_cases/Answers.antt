use Rattle.std.proofs.Common.{[], ◌∷◌, ◌++◌, map, take, sym, ap, ◌∙◌}
use Rattle.std.proofs.lemmas.List.{map-append}
use Rattle.term_values.specs.RowValues.{row_value}
use Rattle.def_ground.specs.Cases.{case_of}
use Rattle.def_ground.specs.Forms.{atom_case}
use Rattle.def_ground.specs.CaseViews.{case_view}
use Rattle.ground_walk.proofs.LeafSteps.{next-row}
use Rattle.ground_walk.proofs.leaves.atom_cases.Goals as goal

pub loop-row-preserved : goal.loop-row-preserved
loop-row-preserved c =
    let rows = c.args.rows.now in
    let k = c.loop-row.row in
    let C = atom_case c.args.base.now c.args.symbol in
    ap (map case_view) c.in_ok-push.ensures.items
    ∙ map-append case_view c.loop-row.cases.items (c.in_ok-case_of.field-0 ∷ [])
    ∙ ap (λ cs. cs ++ case_view c.in_ok-case_of.field-0 ∷ []) c.loop-row.invariant
    ∙ ap (λ v. map C (take k rows) ++ v ∷ []) (c.in_ok-case_of.ensures
    ∙ ap (case_of c.guards.result.now) c.atom_answer-answer.ensures)
    ∙ sym (next-row C rows k c.guards.result.now (map row_value c.values.result.now) c.guards.ensures c.values.ensures)
