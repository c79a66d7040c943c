use Rattle.std.proofs.Common.{◌≡◌, Some, map, take, reverse}
use Rattle.row_tries.specs.Lent.{lent_view}
use Rattle.row_tries.specs.Words.{words_in}
use Rattle.row_tries.specs.Rows.{node_of, Grows}
use Rattle.row_tries.proofs.rows.Rows.reach_lent.Given as goal

abbrev pub invariant-loop-elem : goal.invariant-loop-elem
invariant-loop-elem l = record {
  node : node_of (words_in l.self.words) l.self.nodes.entries l.symbol
      (reverse (map lent_view (take l.elem-index l.args))) ≡ Some l.node;
  grows : Grows l.fn.self.nodes.entries l.self.nodes.entries;
  words : l.self.words ≡ l.fn.self.words;
}
