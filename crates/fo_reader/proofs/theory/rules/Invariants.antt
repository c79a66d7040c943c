use Rattle.std.proofs.Common.{◌≡◌, ◌≤◌, length, map}
use Rattle.grammar.specs.Terminals.{toks}
use Rattle.grammar.specs.BlockSpelling.{put_each, put_rule}
use Rattle.grammar.specs.BlockFine.{FineEach, FineRule}
use Rattle.grammar.specs.BlockView.{rule_view}
use Rattle.fo_reader.proofs.theory.rules.Given as goal

abbrev pub invariant-rules : goal.invariant-rules
invariant-rules l = record {
  shorter : length l.rest ≤ length l.items;
  so_far : toks l.items ≡ put_each put_rule (map rule_view l.found) (toks l.rest);
  fine : FineEach FineRule (map rule_view l.found);
}

abbrev pub decreases-rules : goal.decreases-rules
decreases-rules l = length l.rest
