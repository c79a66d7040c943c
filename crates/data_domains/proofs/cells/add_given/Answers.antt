use Rattle.std.proofs.Common.{◌≡◌, ◌<◌, List, get_or, length, map, ◌++◌, subst, ap, ◌∙◌}
use Rattle.std.specs.List.{filter_map}
use Rattle.stage_definitions.specs.DataEntries.{Spot}
use Rattle.structure_entries.specs.declared.rows.Row.{Row}
use Rattle.structure_entries.specs.EntryViews.{cell_view, spot_view, subject_view}
use Rattle.data_domains.proofs.Filled.{cells_next}
use Rattle.data_domains.proofs.cells.add_given.Goals as goal

pub loop-row-preserved : goal.loop-row-preserved
loop-row-preserved c =
    let x = subject_view c.args.entry.now.subject in
    let rows = c.args.entry.now.rows.items in
    let i = c.loop-row.row-index in
    let r = c.row-item.result in
    let same = c.deref-row-items.ensures.value in
    let within = subst (λ (xs : List Row). i < length xs) same c.loop-row-test.true in
    let at : r ≡ get_or rows i r = c.row-item.is ∙ ap (λ (xs : List Row). get_or xs i r) same in
    let written = ap (map spot_view) c.deref.ensures.value ∙ c.in_ok-set_spots.ensures in
    cells_next x rows i r (map cell_view c.loop-row.cells.items) _ _ within at
    (c.in_ok-add_written.ensures ∙ ap (λ ss. map cell_view c.loop-row.cells.items
    ++ filter_map (λ (s : Spot). s.cell) ss) written) c.loop-row.invariant
