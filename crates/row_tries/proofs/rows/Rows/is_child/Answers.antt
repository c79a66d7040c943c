use Rattle.std.proofs.Common.{◌∙◌, sym}
use Rattle.row_tries.specs.contracts.rows.EdgePartialEq.TheImpl.{ghosts as edge_equality}
use Rattle.row_tries.proofs.Labels.{edge_test}
use Rattle.row_tries.proofs.Entered.{own_child}
use Rattle.row_tries.proofs.rows.Rows.is_child.Goals as goal

pub returns-in-Some : goal.returns-in-Some
returns-in-Some c = λ t. own_child edge_equality.eq c.args.self.now.nodes.entries c.args.parent c.args.label c.args.node
    _ edge_test c.len-count.ensures.unique (sym c.in-Some.ensures.entry)
    (sym (edge_test _ c.in-Some.edge.now) ∙ sym c.eq.ensures ∙ t)
