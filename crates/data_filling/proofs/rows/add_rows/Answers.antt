use Rattle.std.proofs.Common.{◌≡◌, ◌<◌, ◌+◌, ◌∙◌, ◌++◌, ◌∷◌, [], ℕ, Bool, List, get_or, length, map, refl, sym}
use Rattle.std.proofs.Common.{ap, subst, append_assoc, append-nil}
use Rattle.stage_definitions.specs.DataEntries.{Subject}
use Rattle.stage_definitions.specs.DataFacts.{Fact}
use Rattle.structure_entries.specs.EntryViews.{row_view, subject_view}
use Rattle.structure_entries.specs.declared.rows.Row.{Row}
use Rattle.data_filling.specs.Filling.{Adds, row_facts}
use Rattle.data_filling.proofs.RowsOver.{left, next_left, none_left}
use Rattle.data_filling.proofs.Steps.{adds_nothing, adds_then}
use Rattle.data_filling.proofs.Turns.{part_after}
use Rattle.data_filling.proofs.Unopposed.{open_part}
use Rattle.data_filling.proofs.rows.add_rows.Goals as goal

-- what was added, what the row says and what is left are all that is said
pub next_row : (holds : Bool) (x : Subject) (rows : List Row) (i : ℕ) (row : Row) (done whole : List Fact)
    → i < length rows → row ≡ get_or rows i row → done ++ left holds x rows i ≡ whole
    → done ++ (row_facts holds x (row_view row ∷ []) ++ left holds x rows (i + 1)) ≡ whole
next_row holds x rows i row done whole lt is e = ap (λ fs. done ++ fs) (sym (next_left holds x rows i row lt is)) ∙ e

pub add_one-requires-clause-over : goal.add_one-requires-clause-over
add_one-requires-clause-over c =
    let inv = c.loop-row.invariant in
    let x = subject_view c.args.entry.now.subject in
    let rows = c.args.entry.now.rows.items in
    part_after c.args.partial.now c.loop-row.partial inv.0
    (row_facts c.args.holds x (row_view c.row-item.result ∷ [])) (left c.args.holds x rows (c.loop-row.row-index + 1)) _
    inv.1 (next_row c.args.holds x rows c.loop-row.row-index c.row-item.result inv.0 _
    (rw (← c.deref-row-items.ensures.value) c.loop-row-test.true) (rw (← c.deref-row-items.ensures.value) c.row-item.is)
    inv.2) c.requires.over

pub add_one-requires-clause-open_to : goal.add_one-requires-clause-open_to
add_one-requires-clause-open_to c =
    let inv = c.loop-row.invariant in
    let x = subject_view c.args.entry.now.subject in
    let rows = c.args.entry.now.rows.items in
    open_part c.args.partial.now c.loop-row.partial inv.0
    (row_facts c.args.holds x (row_view c.row-item.result ∷ [])) (left c.args.holds x rows (c.loop-row.row-index + 1)) _
    inv.1 (next_row c.args.holds x rows c.loop-row.row-index c.row-item.result inv.0 _
    (rw (← c.deref-row-items.ensures.value) c.loop-row-test.true) (rw (← c.deref-row-items.ensures.value) c.row-item.is)
    inv.2) c.requires.open_to

pub loop-row-preserved : goal.loop-row-preserved
loop-row-preserved c =
    let inv = c.loop-row.invariant in
    let x = subject_view c.args.entry.now.subject in
    let rows = c.args.entry.now.rows.items in
    let one = row_facts c.args.holds x (row_view c.row-item.result ∷ []) in
    let rest = left c.args.holds x rows (c.loop-row.row-index + 1) in (
      inv.0 ++ one,
      adds_then c.args.partial.now c.loop-row.partial c.add_one.new.partial inv.0 one inv.1 c.in_ok-add_one.ensures,
      append_assoc inv.0 one rest ∙ next_row c.args.holds x rows c.loop-row.row-index c.row-item.result inv.0 _
          (rw (← c.deref-row-items.ensures.value) c.loop-row-test.true)
          (rw (← c.deref-row-items.ensures.value) c.row-item.is) inv.2,
    )

pub returns : goal.returns
returns c =
    let inv = c.loop-row.invariant in
    let x = subject_view c.args.entry.now.subject in
    let rows = c.args.entry.now.rows.items in
    let all : inv.0 ≡ row_facts c.args.holds x (map row_view rows) =
    sym (append-nil inv.0)
    ∙ ap (λ fs. inv.0 ++ fs) (sym (none_left c.args.holds x rows c.loop-row.row-index
    (rw (← c.deref-row-items.ensures.value) c.loop-row-test.false))) ∙ inv.2 in
    subst (λ (fs : List Fact). Adds c.args.partial.now c.loop-row.partial fs) all inv.1

pub loop-row-init : goal.loop-row-init
loop-row-init c = ([], adds_nothing c.args.partial.now, refl)
