use Rattle.kb_logic.specs.Meaning.{rows_of}
use Rattle.std.proofs.Common.{◌≡◌, drop}
use Rattle.kb_logic.proofs.values.rows.Given as goal

abbrev pub invariant-loop-table : goal.invariant-loop-table
invariant-loop-table l = rows_of l.symbol (drop l.table-index l.tables) ≡ rows_of l.symbol l.tables
