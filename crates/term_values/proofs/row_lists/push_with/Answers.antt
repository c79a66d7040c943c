use Rattle.std.proofs.Common.{◌++◌, ◌∷◌, List, map}
use Rattle.kb_logic.specs.Denotations.{Denotation}
use Rattle.kb_logic.specs.Values.{value_view}
use Rattle.lit_core.specs.declared.literals.Lit.{Lit}
use Rattle.term_values.specs.RowValues.{row_value}
use Rattle.term_values.proofs.RowListLemmas.{row_read, map_pushed}
use Rattle.term_values.proofs.row_lists.push_with.Goals as goal

pub loop-row-preserved : goal.loop-row-preserved
loop-row-preserved c =
    let others = c.args.others.now in
    let g = c.guards.result.now in
    let v = map row_value c.values.result.now in
    map_pushed (λ (y : List Lit × List Denotation). (c.args.guards.now ++ y.0, value_view c.args.value ∷ y.1)) others
    c.loop-row.row g v c.args.out.now c.loop-row.out c.push.new.self
    (row_read others c.loop-row.row g v c.guards.ensures c.values.ensures) c.loop-row.invariant c.in_ok-push.ensures.ok
