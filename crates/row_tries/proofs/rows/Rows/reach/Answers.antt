use Rattle.std.proofs.Common.{arith}
use Rattle.std.proofs.lemmas.Grind.{common_steps}
use Rattle.std.proofs.Common.{take, reverse}
use Rattle.std.proofs.lemmas.Option.{slice_get_within}
use Rattle.row_tries.specs.Words.{words_in}
use Rattle.row_tries.proofs.Growth.{node_there}
use Rattle.row_tries.proofs.rows.Rows.reach.Goals as goal

pub reach_child-requires-clause-parent : goal.reach_child-requires-clause-parent
reach_child-requires-clause-parent c =
    let rows = c.loop-elem.self in
    let there = node_there (words_in rows.words) rows.nodes.entries c.args.symbol
    (reverse (take c.loop-elem.elem-index c.args.args.now)) c.loop-elem.node c.loop-elem.invariant.node in
    slice_get_within rows.nodes.entries c.loop-elem.node there.item there.at

pub loop-elem-preserved : goal.loop-elem-preserved
loop-elem-preserved c = grind (arith, common_steps)

pub returns-clause-node : goal.returns-clause-node
returns-clause-node c = grind (arith, common_steps)
