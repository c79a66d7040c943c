use Rattle.std.proofs.Common.{map, reverse}
use Rattle.row_tries.specs.Lent.{lent_view}
use Rattle.row_tries.specs.Words.{words_in}
use Rattle.row_tries.proofs.Growth.{node_within}
use Rattle.partial_structures.proofs.atoms.reach_lent_atom.Goals as goal

pub reach_lent_child-requires-clause-parent : goal.reach_lent_child-requires-clause-parent
reach_lent_child-requires-clause-parent c =
    let rows = c.reach_lent.new.self in
    node_within (words_in rows.words) rows.nodes.entries c.args.symbol (reverse (map lent_view c.args.args.now))
    c.in_ok-node.node c.in_ok-node.ensures.node
