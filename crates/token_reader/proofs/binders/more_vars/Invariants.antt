use Rattle.std.proofs.Common.{◌≤◌, List, length, map}
use Rattle.grammar.specs.Terminals.{Tok, toks}
use Rattle.grammar.specs.Trees.{Var}
use Rattle.grammar.specs.View.{var_tail_view}
use Rattle.token_reader.specs.Variables.{VarsAre}
use Rattle.token_reader.proofs.binders.more_vars.Given as goal

abbrev pub invariant-loop-comma : goal.invariant-loop-comma
invariant-loop-comma l = record {
  shorter : length l.rest ≤ length l.items;
  so_far : (ts : List Tok) (v : Var) → VarsAre ts v (map var_tail_view l.initial.more) (toks l.items)
      → VarsAre ts v (map var_tail_view l.more) (toks l.rest);
}

abbrev pub decreases-loop-comma : goal.decreases-loop-comma
decreases-loop-comma l = length l.rest
