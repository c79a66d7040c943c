use Rattle.std.proofs.Common.{◌≡◌, drop}
use Rattle.row_tries.specs.Words.{words_in}
use Rattle.partial_structures.specs.Tally.{tables_left}
use Rattle.partial_structures.proofs.extension.left_over.Given as goal

abbrev pub invariant-loop-table : goal.invariant-loop-table
invariant-loop-table l =
    tables_left (words_in l.rows.words) l.rows.nodes.entries l.closed l.function (drop l.table-index l.tables) l.left
    ≡ tables_left (words_in l.rows.words) l.rows.nodes.entries l.closed l.function l.tables l.fn.left
