use Rattle.std.proofs.Common.{◌≡◌, ◌<◌, ◌∷◌, [], ◌+◌, List, get_or, length, map, drop, ◌++◌, refl, sym, subst, ap, ◌∙◌}
use Rattle.std.specs.List.{filter_map}
use Rattle.stage_definitions.specs.DataEntries.{Spot}
use Rattle.structure_entries.specs.declared.rows.Row.{Row}
use Rattle.structure_entries.specs.EntryViews.{row_view, spot_view, spots_in, subject_view}
use Rattle.data_domains.specs.Shares.{Takes}
use Rattle.data_domains.proofs.Filled.{cells_first, taken_next, takes_nothing}
use Rattle.data_domains.proofs.filling.add_whole.Goals as goal

pub loop-row-init : goal.loop-row-init
loop-row-init c = ([], takes_nothing c.args.data.now, refl)

pub loop-row-preserved : goal.loop-row-preserved
loop-row-preserved c =
    let x = subject_view c.args.entry.now.subject in
    let rows = c.args.entry.now.rows.items in
    let i = c.loop-row.row-index in
    let r = c.row-item.result in
    let same = c.deref-row-items.ensures.value in
    let within = subst (λ (xs : List Row). i < length xs) same c.loop-row-test.true in
    let at : r ≡ get_or rows i r = c.row-item.is ∙ ap (λ (xs : List Row). get_or xs i r) same in
    let written = ap (map spot_view) c.deref.ensures.value ∙ c.in_ok-set_spots.ensures in
    let piece = filter_map (λ (s : Spot). s.cell) (spots_in x (row_view r ∷ [])) in
    let before = c.loop-row.invariant in
    taken_next c.args.data.now c.loop-row.data c.add_written.new.data before.0 piece
    (filter_map (λ (s : Spot). s.cell) (spots_in x (map row_view (drop (i + 1) rows)))) _ before.1
    (subst (λ ss. Takes c.loop-row.data c.add_written.new.data (filter_map (λ (s : Spot). s.cell) ss)) written
    c.in_ok-add_written.ensures)
    (ap (λ ds. before.0 ++ ds) (sym (cells_first x rows i r within at)) ∙ before.2)
