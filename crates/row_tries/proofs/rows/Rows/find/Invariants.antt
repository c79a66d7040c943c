use Rattle.std.proofs.Common.{◌≡◌, take, reverse}
use Rattle.row_tries.specs.Words.{words_in}
use Rattle.row_tries.specs.Rows.{node_of}
use Rattle.row_tries.proofs.rows.Rows.find.Given as goal

abbrev pub invariant-loop-elem : goal.invariant-loop-elem
invariant-loop-elem l = l.node ≡ node_of (words_in l.self.words) l.self.nodes.entries l.symbol
    (reverse (take l.elem-index l.args))
