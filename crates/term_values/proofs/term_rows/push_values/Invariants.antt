use Rattle.std.proofs.Common.{◌≡◌, ◌++◌, ◌+◌, drop}
use Rattle.term_values.specs.Rows.{value_rows}
use Rattle.term_values.proofs.term_rows.push_values.Given as goal

abbrev pub invariant-loop-place : goal.invariant-loop-place
invariant-loop-place l =
    l.out ++ value_rows l.base l.guards (l.first + l.place) (drop l.place l.values)
    ≡ l.fn.out ++ value_rows l.base l.guards l.first l.values
