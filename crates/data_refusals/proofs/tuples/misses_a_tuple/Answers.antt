use Rattle.std.proofs.Common.{◌≡◌, ◌+◌, ◌∙◌, [], ◌∷◌, List, drop, fold, length, map, nat_lt, sym, ap, Vec}
use Rattle.std.specs.declared.alloc.Global.{Global}
use Rattle.std.proofs.lemmas.List.{drop_all, length-map}
use Rattle.stage_definitions.specs.DataFacts.{is_over, tuple_count, tuples_given, with_tuple}
use Rattle.structure_entries.proofs.Dropped.{front}
use Rattle.structure_entries.specs.EntryViews.{row_view, subject_view}
use Rattle.structure_entries.specs.SaidViews.{said_view}
use Rattle.structure_entries.specs.declared.rows.Row.{Row}
use Rattle.data_refusals.specs.Labels.{tuple_view}
use Rattle.data_refusals.specs.declared.labels.Label.{Label}
use Rattle.data_refusals.proofs.TupleSets.{fewer, next_row, taken}
use Rattle.data_refusals.proofs.tuples.misses_a_tuple.Goals as goal

pub loop-row-preserved : goal.loop-row-preserved
loop-row-preserved c = λ all es h.
    let inv = c.loop-row.invariant all es h in
    let x = subject_view c.args.entry.now.subject in
    let over = is_over all es c.args.args.now in
    let rows = c.args.entry.now.rows.items in
    let i = c.loop-row.row-index in (
      fold with_tuple inv.0 (taken over x (row_view c.row-item.result ∷ [])),
      c.in_ok-add_row.ensures all es h inv.0 inv.1,
      next_row over x (row_view c.row-item.result) (map row_view (drop (i + 1) rows)) inv.0
          ∙ sym (ap (λ (rs : List Row). fold with_tuple inv.0 (taken over x (map row_view rs)))
          (front rows i c.row-item.result (rw (← c.deref-row-items.ensures.value) c.loop-row-test.true)
          (rw (← c.deref-row-items.ensures.value) c.row-item.is))) ∙ inv.2,
    )

pub returns : goal.returns
returns c = λ all es h.
    let inv = c.loop-row.invariant all es h in
    let x = subject_view c.args.entry.now.subject in
    let over = is_over all es c.args.args.now in
    let rows = c.args.entry.now.rows.items in
    let i = c.loop-row.row-index in
    let given = tuples_given all es c.args.args.now (said_view c.args.entry.now) in
    let done : inv.0 ≡ given = sym (ap (λ (rs : List Row). fold with_tuple inv.0 (taken over x (map row_view rs)))
    (drop_all i rows (rw (← c.deref-row-items.ensures.value) c.loop-row-test.false))) ∙ inv.2 in
    let count : length c.loop-row.tuples.table.keys ≡ length given =
    sym (length-map c.loop-row.tuples.table.keys (λ (k : Vec Label Global). tuple_view k.items)) ∙ inv.1.count
    ∙ ap length done in
    ap (nat_lt c.len.result) (c.tuple_count.ensures all es h) ∙ fewer c.len.result (tuple_count all es c.args.args.now)
    c.len.ensures.small ∙ ap (λ n. nat_lt n (tuple_count all es c.args.args.now)) (c.len.ensures.len ∙ count)
