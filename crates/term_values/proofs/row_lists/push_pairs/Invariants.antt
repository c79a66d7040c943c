use Rattle.std.proofs.Common.{◌≡◌, ◌++◌, ◌∷◌, take}
use Rattle.term_values.specs.Rows.{pair_rows}
use Rattle.term_values.proofs.row_lists.push_pairs.Given as goal

abbrev pub invariant-loop-row : goal.invariant-loop-row
invariant-loop-row l = l.out ≡ l.fn.out ++ pair_rows (λ x xs. x ∷ xs) (take l.row l.firsts) l.others
