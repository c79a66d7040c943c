use Rattle.std.proofs.Common.{◌≤◌, List, length, map}
use Rattle.grammar.specs.Terminals.{Tok, toks}
use Rattle.grammar.specs.Trees.{And}
use Rattle.grammar.specs.View.{or_tail_view, or_of}
use Rattle.formula_reader.specs.Chains.{OrsAre}
use Rattle.formula_reader.proofs.expressions.Reader.more_ors.Given as goal

abbrev pub invariant-loop-place : goal.invariant-loop-place
invariant-loop-place g l = record {
  shorter : length l.rest ≤ length l.items;
  so_far : (ts : List Tok) (a : And) → OrsAre ts (or_of a (map or_tail_view l.initial.more)) l.ends (toks l.items)
      → OrsAre ts (or_of a (map or_tail_view l.more)) l.closed (toks l.rest);
}

abbrev pub decreases-loop-place : goal.decreases-loop-place
decreases-loop-place g l = length l.rest
