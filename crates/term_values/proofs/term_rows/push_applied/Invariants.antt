use Rattle.std.proofs.Common.{◌≡◌, ◌++◌, List, take}
use Rattle.std.specs.List.{flat_map}
use Rattle.kb_logic.specs.Denotations.{Denotation}
use Rattle.lit_core.specs.declared.literals.Lit.{Lit}
use Rattle.term_values.specs.GroundBases.{row_index, tuples_at}
use Rattle.term_values.specs.Rows.{rows_at}
use Rattle.term_values.proofs.term_rows.push_applied.Given as goal

abbrev pub invariant-loop-row : goal.invariant-loop-row
invariant-loop-row l =
    l.out ≡ l.fn.out ++ flat_map
    (λ (t : List Lit × List Denotation). rows_at l.base l.symbol t.0 (row_index (tuples_at l.base l.symbol) t.1))
    (take l.row l.tuples)
