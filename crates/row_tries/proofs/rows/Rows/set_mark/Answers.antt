use Rattle.row_tries.proofs.Changes.{tree-set}
use Rattle.row_tries.proofs.rows.Rows.set_mark.Goals as goal

pub invariant_of-self : goal.invariant_of-self
invariant_of-self c = record {
  tree = tree-set c.args.self.now.nodes.entries c.args.node c.args.mark
      c.args.self.now.tree;
}
