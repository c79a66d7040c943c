use Rattle.std.proofs.Common.{◌≡◌, ◌≤◌, length, map}
use Rattle.grammar.specs.Terminals.{toks}
use Rattle.grammar.specs.BlockSpelling.{put_each, put_theory_item}
use Rattle.grammar.specs.BlockFine.{FineEach, FineTheoryItem}
use Rattle.grammar.specs.BlockView.{theory_item_view}
use Rattle.fo_reader.proofs.theory.theory_items.Given as goal

abbrev pub invariant-items : goal.invariant-items
invariant-items l = record {
  shorter : length l.rest ≤ length l.items;
  so_far : toks l.items ≡ put_each put_theory_item (map theory_item_view l.found) (toks l.rest);
  fine : FineEach FineTheoryItem (map theory_item_view l.found);
}

abbrev pub decreases-items : goal.decreases-items
decreases-items l = length l.rest
