use Rattle.std.proofs.Common.{◌≡◌, drop}
use Rattle.row_tries.specs.Words.{words_in}
use Rattle.partial_structures.specs.Tally.{row_status as status_of_row, left_after}
use Rattle.partial_structures.proofs.extension.rows_left.Given as goal

abbrev pub invariant-loop-row : goal.invariant-loop-row
invariant-loop-row l =
    let P = status_of_row (words_in l.rows.words) l.rows.nodes.entries l.closed l.function l.symbol in
    left_after P (drop l.row-index l.table) l.left ≡ left_after P l.table l.fn.left
