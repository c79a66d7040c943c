use Rattle.row_tries.specs.Rows.{same_edge}
use Rattle.row_tries.proofs.Places.{found_place}
use Rattle.row_tries.proofs.Labels.{edge_test}
use Rattle.row_tries.proofs.rows.Rows.child.Goals as goal

pub returns : goal.returns
returns c = found_place (λ e. e.0) _ (λ e. same_edge c.args.parent c.args.label e.0) c.args.self.now.nodes.entries _
    c.get_index_of.ensures.index (λ e. edge_test _ e.0)
