use Rattle.std.proofs.Common.{◌≡◌, ◌++◌, take}
use Rattle.kb_logic.specs.Meaning.{number_value}
use Rattle.term_values.specs.Rows.{map_rows}
use Rattle.term_values.specs.RowSums.{sum_values, signs_of}
use Rattle.term_values.proofs.row_lists.push_sums.Given as goal

abbrev pub invariant-loop-row : goal.invariant-loop-row
invariant-loop-row l = l.out ≡ l.fn.out ++ map_rows (λ vs. number_value (sum_values (signs_of l.parts) vs))
    (take l.row l.tuples)
