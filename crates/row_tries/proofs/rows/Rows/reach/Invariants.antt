use Rattle.std.proofs.Common.{◌≡◌, Some, take, reverse}
use Rattle.row_tries.specs.Words.{words_in}
use Rattle.row_tries.specs.Rows.{node_of, Grows}
use Rattle.row_tries.proofs.rows.Rows.reach.Given as goal

abbrev pub invariant-loop-elem : goal.invariant-loop-elem
invariant-loop-elem l = record {
  node : node_of (words_in l.self.words) l.self.nodes.entries l.symbol (reverse (take l.elem-index l.args))
      ≡ Some l.node;
  grows : Grows l.fn.self.nodes.entries l.self.nodes.entries;
  words : l.self.words ≡ l.fn.self.words;
}
