use Rattle.std.proofs.Common.{◌≡◌, ◌≤◌, length, map}
use Rattle.grammar.specs.declared.terminal.Terminal.TheVariants as t
use Rattle.grammar.specs.Terminals.{toks}
use Rattle.grammar.specs.BlockSpelling.{put_each, put_behind, put_item}
use Rattle.grammar.specs.BlockView.{item_tail_view}
use Rattle.block_reader.specs.BlockParts.{EndsItem}
use Rattle.token_reader.specs.Signs.{next}
use Rattle.block_reader.proofs.structure.item_tails.Given as goal

abbrev pub invariant-loop-place : goal.invariant-loop-place
invariant-loop-place l = record {
  shorter : length l.rest ≤ length l.items;
  so_far : toks l.items ≡ put_each (put_behind t.Comma put_item) (map item_tail_view l.more) (toks l.rest);
  may : EndsItem (next (toks l.rest));
}

abbrev pub decreases-loop-place : goal.decreases-loop-place
decreases-loop-place l = length l.rest
