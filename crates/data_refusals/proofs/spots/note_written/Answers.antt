use Rattle.std.proofs.Common.{◌≡◌, ◌∙◌, ◌<◌, ◌+◌, [], ◌∷◌, List, drop, fold, get_or, length, map, subst, sym, ap}
use Rattle.std.proofs.lemmas.Bool.{and_parts}
use Rattle.stage_definitions.specs.DataStage as stage
use Rattle.structure_entries.specs.EntryViews.{row_view, spot_view, spots_in, subject_view}
use Rattle.structure_entries.specs.declared.rows.Row.{Row}
use Rattle.data_refusals.specs.Words.{has_words_alone}
use Rattle.data_refusals.proofs.Noting.{next_by}
use Rattle.data_refusals.proofs.WordRows.{row_noted, rows_noted}
use Rattle.data_refusals.proofs.spots.note_written.Goals as goal

pub loop-row-preserved-then-is_fine : goal.loop-row-preserved-then-is_fine
loop-row-preserved-then-is_fine c = λ all es h.
    let x = subject_view c.args.entry.now.subject in
    let rows = c.args.entry.now.rows.items in
    let i = c.loop-row.row-index in
    let r = c.row-item.result in
    let same = c.deref-row-items.ensures.value in
    let within = subst (λ (xs : List Row). i < length xs) same c.loop-row-test.true in
    let at : r ≡ get_or rows i r = c.row-item.is ∙ ap (λ (xs : List Row). get_or xs i r) same in
    let old = c.loop-row.earliest.first in
    let own = spots_in x (row_view r ∷ []) in
    next_by (stage.data_noted all es) (λ (rs : List Row). map (λ w. stage.spot w) (spots_in x (map row_view rs))) rows i
    r (map (λ w. stage.spot w) own) old _ _ within at
    (rows_noted x r (drop (i + 1) rows))
    (sym (row_noted all es x (row_view r) old (sym (c.are_open-takes_words.ensures all es h)
    ∙ (and_parts c.are_open-takes_words.result (has_words_alone (row_view r)) (sym c.is_fine.ensures ∙ c.if-is_fine.true)).0)
    (and_parts c.are_open-takes_words.result (has_words_alone (row_view r)) (sym c.is_fine.ensures ∙ c.if-is_fine.true)).1))
    (c.loop-row.invariant all es h)

pub loop-row-preserved : goal.loop-row-preserved
loop-row-preserved c = λ all es h.
    let x = subject_view c.args.entry.now.subject in
    let rows = c.args.entry.now.rows.items in
    let i = c.loop-row.row-index in
    let r = c.row-item.result in
    let same = c.deref-row-items.ensures.value in
    let within = subst (λ (xs : List Row). i < length xs) same c.loop-row-test.true in
    let at : r ≡ get_or rows i r = c.row-item.is ∙ ap (λ (xs : List Row). get_or xs i r) same in
    let old = c.loop-row.earliest.first in
    let own = spots_in x (row_view r ∷ []) in
    next_by (stage.data_noted all es) (λ (rs : List Row). map (λ w. stage.spot w) (spots_in x (map row_view rs))) rows i
    r (map (λ w. stage.spot w) own) old _ _ within at
    (rows_noted x r (drop (i + 1) rows))
    (c.note_spots.ensures all es h ∙ ap (λ ss. fold (stage.data_noted all es) old (map (λ w. stage.spot w) ss))
    (ap (map spot_view) c.deref.ensures.value ∙ c.in_ok-set_spots.ensures))
    (c.loop-row.invariant all es h)
