use Rattle.std.proofs.Common.{◌≡◌, ◌++◌, take, pos}
use Rattle.kb_logic.specs.Meaning.{number_value, product_from}
use Rattle.term_values.specs.Rows.{map_rows}
use Rattle.term_values.proofs.row_lists.push_products.Given as goal

abbrev pub invariant-loop-row : goal.invariant-loop-row
invariant-loop-row l = l.out ≡ l.fn.out ++ map_rows (λ vs. number_value (product_from (pos 1) vs)) (take l.row l.tuples)
