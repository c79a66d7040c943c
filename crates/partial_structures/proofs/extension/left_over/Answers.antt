use Rattle.std.proofs.Common.{◌≡◌, Bool, ◌∙◌, sym, ap}
use Rattle.row_tries.specs.Words.{words_in}
use Rattle.partial_structures.specs.Tally.{row_status as status_of_row, left_after}
use Rattle.partial_structures.proofs.Tallies.{next_table}
use Rattle.partial_structures.proofs.extension.left_over.Goals as goal

pub loop-table-preserved : goal.loop-table-preserved
loop-table-preserved c =
    let a = c.args in
    let t = c.table-item.result in
    let P = λ (f : Bool). left_after (status_of_row (words_in a.rows.now.words) a.rows.now.nodes.entries f a.function
    t.symbol) t.rows c.loop-table.left in
    let here : c.rows_left.result ≡ P c.flag-flag.result = rw c.as_slice.ensures at c.rows_left.ensures in
    next_table (words_in a.rows.now.words) a.rows.now.nodes.entries a.closed.now a.function a.tables.now
    c.loop-table.table-index t c.loop-table.left c.in-Some.rest c.loop-table-test.true c.table-item.is
    (ap P (sym c.flag-flag.ensures) ∙ sym here ∙ c.in-Some.is)
    ∙ c.loop-table.invariant
