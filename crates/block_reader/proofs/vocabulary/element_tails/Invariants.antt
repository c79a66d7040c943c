use Rattle.std.proofs.Common.{◌≡◌, ◌≤◌, length, map}
use Rattle.grammar.specs.Terminals.{toks}
use Rattle.grammar.specs.BlockSpelling.{put_each, put_separated}
use Rattle.grammar.specs.BlockView.{element_tail_view}
use Rattle.block_reader.proofs.vocabulary.element_tails.Given as goal

abbrev pub invariant-loop-sign : goal.invariant-loop-sign
invariant-loop-sign l = record {
  shorter : length l.rest ≤ length l.items;
  so_far : toks l.items ≡ put_each put_separated (map element_tail_view l.more) (toks l.rest);
}

abbrev pub decreases-loop-sign : goal.decreases-loop-sign
decreases-loop-sign l = length l.rest
