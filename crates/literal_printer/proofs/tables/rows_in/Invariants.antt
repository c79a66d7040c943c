use Rattle.std.proofs.Common.{◌≡◌, drop}
use Rattle.kb_logic.specs.Meaning.{rows_of}
use Rattle.literal_printer.proofs.tables.rows_in.Given as goal

abbrev pub invariant-loop-table : goal.invariant-loop-table
invariant-loop-table l = rows_of l.number l.tables ≡ rows_of l.number (drop l.table-index l.tables)
