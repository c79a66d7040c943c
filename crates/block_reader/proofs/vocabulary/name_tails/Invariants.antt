use Rattle.std.proofs.Common.{◌≡◌, ◌≤◌, length, map}
use Rattle.grammar.specs.declared.terminal.Terminal.TheVariants as t
use Rattle.grammar.specs.Terminals.{toks}
use Rattle.grammar.specs.Spelling.{put_name}
use Rattle.grammar.specs.BlockSpelling.{put_each, put_behind}
use Rattle.grammar.specs.BlockView.{name_tail_view}
use Rattle.block_reader.proofs.vocabulary.name_tails.Given as goal

abbrev pub invariant-loop-place : goal.invariant-loop-place
invariant-loop-place l = record {
  shorter : length l.rest ≤ length l.items;
  so_far : toks l.items ≡ put_each (put_behind t.Comma put_name) (map name_tail_view l.more) (toks l.rest);
}

abbrev pub decreases-loop-place : goal.decreases-loop-place
decreases-loop-place l = length l.rest
