use Rattle.std.proofs.Common.{◌++◌, ◌∷◌, [], List, map, ap, ◌∙◌, IfSome, FitsSigned, w64}
use Rattle.std.proofs.lemmas.List.{append-nil}
use Rattle.kb_logic.specs.Denotations.{Denotation}
use Rattle.kb_logic.specs.Meaning.{number_value}
use Rattle.kb_logic.specs.Values.{value_view}
use Rattle.lit_core.specs.declared.literals.Lit.{Lit}
use Rattle.term_values.specs.RowSums.{sum_values, signs_of}
use Rattle.term_values.specs.RowValues.{row_value}
use Rattle.term_values.proofs.RowListLemmas.{row_read, map_pushed, all_at}
use Rattle.term_values.proofs.row_lists.push_sums.Goals as goal

pub sum_value-requires : goal.sum_value-requires
sum_value-requires c =
    let tuples = c.args.tuples.now in
    let g = c.guards.result.now in
    let v = map row_value c.values.result.now in
    all_at (λ (r : List Lit × List Denotation). IfSome (sum_values (signs_of c.args.parts.now) r.1)
    (λ z. FitsSigned w64 z)) tuples c.loop-row.row (g, v) c.requires
    (row_read tuples c.loop-row.row g v c.guards.ensures c.values.ensures)

pub loop-row-preserved : goal.loop-row-preserved
loop-row-preserved c =
    let tuples = c.args.tuples.now in
    let g = c.guards.result.now in
    let v = map row_value c.values.result.now in
    let pushed = c.in_ok-push.ensures.ok
    ∙ (ap (λ l. c.loop-row.out ++ (l, value_view c.sum_value.result) ∷ []) (append-nil g)
    ∙ ap (λ x. c.loop-row.out ++ (g, x) ∷ []) c.sum_value.ensures) in
    map_pushed (λ (r : List Lit × List Denotation). (r.0, number_value (sum_values (signs_of c.args.parts.now) r.1)))
    tuples c.loop-row.row g v c.args.out.now c.loop-row.out c.push.new.self
    (row_read tuples c.loop-row.row g v c.guards.ensures c.values.ensures) c.loop-row.invariant pushed
