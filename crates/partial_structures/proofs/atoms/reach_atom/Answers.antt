use Rattle.std.proofs.Common.{reverse}
use Rattle.row_tries.specs.Words.{words_in}
use Rattle.row_tries.proofs.Growth.{node_within}
use Rattle.partial_structures.proofs.atoms.reach_atom.Goals as goal

pub reach_child-requires-clause-parent : goal.reach_child-requires-clause-parent
reach_child-requires-clause-parent c =
    let rows = c.reach.new.self in
    node_within (words_in rows.words) rows.nodes.entries c.args.atom.now.symbol (reverse c.as_slice.result.now)
    c.in_ok-node.node c.in_ok-node.ensures.node
