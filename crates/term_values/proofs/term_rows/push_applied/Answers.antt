use Rattle.std.proofs.Common.{List, map}
use Rattle.kb_logic.specs.Denotations.{Denotation}
use Rattle.lit_core.specs.declared.literals.Lit.{Lit}
use Rattle.term_values.specs.GroundBases.{row_index, tuples_at}
use Rattle.term_values.specs.Rows.{rows_at}
use Rattle.term_values.specs.RowValues.{row_value}
use Rattle.term_values.proofs.RowListLemmas.{row_read, flat_pushed}
use Rattle.term_values.proofs.term_rows.push_applied.Goals as goal

pub loop-row-preserved : goal.loop-row-preserved
loop-row-preserved c =
    let b = c.args.base.now in
    let s = c.args.symbol in
    let tuples = c.args.tuples.now in
    let g = c.guards.result.now in
    let v = map row_value c.values.result.now in
    flat_pushed (λ (t : List Lit × List Denotation). rows_at b s t.0 (row_index (tuples_at b s) t.1)) tuples
    c.loop-row.row (g, v) c.args.out.now c.loop-row.out c.push_at.new.out
    (row_read tuples c.loop-row.row g v c.guards.ensures c.values.ensures) c.loop-row.invariant c.in_ok-push_at.ensures
