use Rattle.std.proofs.Common.{◌++◌, ◌∷◌, List, map}
use Rattle.kb_logic.specs.Denotations.{Denotation}
use Rattle.kb_logic.specs.Values.{value_view}
use Rattle.lit_core.specs.declared.literals.Lit.{Lit}
use Rattle.term_values.proofs.RowListLemmas.{row_read, flat_pushed}
use Rattle.term_values.proofs.row_lists.push_pairs.Goals as goal

pub loop-row-preserved : goal.loop-row-preserved
loop-row-preserved c =
    let firsts = c.args.firsts.now in
    let others = c.args.others.now in
    let g = c.guards.result.now in
    let v = value_view c.value.result in
    flat_pushed (λ (x : List Lit × Denotation). map (λ (y : List Lit × List Denotation). (x.0 ++ y.0, x.1 ∷ y.1))
    others) firsts c.loop-row.row (g, v) c.args.out.now c.loop-row.out c.push_with.new.out
    (row_read firsts c.loop-row.row g v c.guards.ensures c.value.ensures) c.loop-row.invariant c.in_ok-push_with.ensures
