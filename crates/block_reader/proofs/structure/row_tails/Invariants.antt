use Rattle.std.proofs.Common.{◌≡◌, ◌≤◌, length, map}
use Rattle.grammar.specs.declared.terminal.Terminal.TheVariants as t
use Rattle.grammar.specs.declared.terminal.Outer.TheVariants as o
use Rattle.grammar.specs.Terminals.{toks}
use Rattle.grammar.specs.BlockSpelling.{put_each, put_behind, put_row}
use Rattle.grammar.specs.BlockView.{row_tail_view}
use Rattle.block_reader.specs.BlockParts.{EndsRow}
use Rattle.token_reader.specs.Signs.{next}
use Rattle.block_reader.proofs.structure.row_tails.Given as goal

abbrev pub invariant-loop-place : goal.invariant-loop-place
invariant-loop-place l = record {
  shorter : length l.rest ≤ length l.items;
  so_far : toks l.items ≡ put_each (put_behind (t.Outer o.Semicolon) put_row) (map row_tail_view l.more) (toks l.rest);
  may : EndsRow (next (toks l.rest));
}

abbrev pub decreases-loop-place : goal.decreases-loop-place
decreases-loop-place l = length l.rest
