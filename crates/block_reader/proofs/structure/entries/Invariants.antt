use Rattle.std.proofs.Common.{◌≡◌, ◌≤◌, length, map}
use Rattle.grammar.specs.Terminals.{toks}
use Rattle.grammar.specs.BlockSpelling.{put_each, put_entry}
use Rattle.grammar.specs.BlockView.{entry_view}
use Rattle.block_reader.proofs.structure.entries.Given as goal

abbrev pub invariant-entries : goal.invariant-entries
invariant-entries l = record {
  shorter : length l.rest ≤ length l.items;
  so_far : toks l.items ≡ put_each put_entry (map entry_view l.found) (toks l.rest);
}

abbrev pub decreases-entries : goal.decreases-entries
decreases-entries l = length l.rest
