use Rattle.std.proofs.Common.{sym, ap, ◌∙◌, Some, map, slice_get, option_map, []}
use Rattle.std.proofs.lemmas.List.{length-map}
use Rattle.kb_logic.specs.declared.values.Value.TheVariants.{Named}
use Rattle.term_values.specs.RowValues.{row_value}
use Rattle.term_values.proofs.FlatLemmas.{one_value_at, first_of_one}
use Rattle.term_values.proofs.rows.Rows.value.Goals as goal

pub returns : goal.returns
returns c =
    let vs = c.values.result.now in
    let one = one_value_at c.self.inside.tuples c.args.row (map row_value vs) c.self.invariant c.values.ensures in
    let size = sym (length-map vs row_value) ∙ one.0 in
    let at = one.1 ∙ ap Some
    (first_of_one vs (record { value = Named (record { ref_ptr = (0, 0); now = [] }) }) size) in
    ap (λ l. option_map (λ r. r.1) (slice_get l c.args.row)) (sym c.self.view_is) ∙ at
