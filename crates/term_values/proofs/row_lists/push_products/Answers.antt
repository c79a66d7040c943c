use Rattle.std.proofs.Common.{◌++◌, ◌∷◌, [], List, map, ap, ◌∙◌, pos}
use Rattle.std.proofs.lemmas.List.{append-nil}
use Rattle.kb_logic.specs.Denotations.{Denotation}
use Rattle.kb_logic.specs.Meaning.{number_value, product_from}
use Rattle.kb_logic.specs.Values.{value_view}
use Rattle.lit_core.specs.declared.literals.Lit.{Lit}
use Rattle.term_values.specs.RowValues.{row_value}
use Rattle.term_values.proofs.RowListLemmas.{row_read, map_pushed}
use Rattle.term_values.proofs.row_lists.push_products.Goals as goal

pub loop-row-preserved : goal.loop-row-preserved
loop-row-preserved c =
    let tuples = c.args.tuples.now in
    let g = c.guards.result.now in
    let v = map row_value c.values.result.now in
    let pushed = c.in_ok-push.ensures.ok
    ∙ (ap (λ l. c.loop-row.out ++ (l, value_view c.product_value.result) ∷ []) (append-nil g)
    ∙ ap (λ x. c.loop-row.out ++ (g, x) ∷ []) c.product_value.ensures) in
    map_pushed (λ (r : List Lit × List Denotation). (r.0, number_value (product_from (pos 1) r.1))) tuples
    c.loop-row.row g v c.args.out.now c.loop-row.out c.push.new.self
    (row_read tuples c.loop-row.row g v c.guards.ensures c.values.ensures) c.loop-row.invariant pushed
