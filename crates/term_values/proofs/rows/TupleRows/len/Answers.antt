use Rattle.std.proofs.Common.{sym, ap, ◌∙◌, length}
use Rattle.term_values.specs.FlatRows.{origin}
use Rattle.term_values.proofs.FlatLemmas.{length_rows}
use Rattle.term_values.proofs.rows.TupleRows.len.Goals as goal

pub returns : goal.returns
returns c =
    let i = c.self.inside in
    c.len.ensures.value ∙ sym (length_rows i.guards.items i.values.items origin i.ends.items) ∙ ap length c.self.view_is
