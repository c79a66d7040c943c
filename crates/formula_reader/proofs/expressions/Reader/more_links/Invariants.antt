use Rattle.std.proofs.Common.{◌≤◌, ◌∷◌, ℕ, List, length, map}
use Rattle.grammar.specs.Terminals.{Tok, toks}
use Rattle.grammar.specs.Trees.{Or}
use Rattle.grammar.specs.View.{link_view, formula_of}
use Rattle.formula_reader.specs.Chains.{LinksAre}
use Rattle.formula_reader.proofs.expressions.Reader.more_links.Given as goal

abbrev pub invariant-loop-place : goal.invariant-loop-place
invariant-loop-place g l = record {
  shorter : length l.rest ≤ length l.items;
  so_far : (ts : List Tok) (o : Or) (x : ℕ × Or) → LinksAre ts (formula_of l.arrow o (x ∷ map link_view l.initial.more))
      l.ends (toks l.items)
      → LinksAre ts (formula_of l.arrow o (x ∷ map link_view l.more)) l.closed (toks l.rest);
}

abbrev pub decreases-loop-place : goal.decreases-loop-place
decreases-loop-place g l = length l.rest
