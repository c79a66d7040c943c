use Rattle.std.proofs.Common.{◌≡◌, ◌≤◌, List, length, map}
use Rattle.grammar.specs.Terminals.{Tok, toks}
use Rattle.grammar.specs.Trees.{Product}
use Rattle.grammar.specs.Spelling.{put_term}
use Rattle.grammar.specs.Fine.{FineTerm}
use Rattle.grammar.specs.declared.terminal.Terminal.TheVariants as t
use Rattle.token_reader.specs.Signs.{next, No}
use Rattle.token_reader.specs.Parts.{EndsFactor}
use Rattle.grammar.specs.View.{sum_tail_view, term_of}
use Rattle.formula_reader.proofs.expressions.Reader.more_products.Given as goal

abbrev pub invariant-loop-sign : goal.invariant-loop-sign
invariant-loop-sign g l = record {
  shorter : length l.rest ≤ length l.items;
  so_far : (ts : List Tok) (x : Product) → ts ≡ put_term (term_of x (map sum_tail_view l.initial.more)) (toks l.items)
      → ts ≡ put_term (term_of x (map sum_tail_view l.more)) (toks l.rest);
  fine : (x : Product) → FineTerm (term_of x (map sum_tail_view l.initial.more))
      → FineTerm (term_of x (map sum_tail_view l.more));
  ends : EndsFactor (toks l.rest);
  no_times : No t.Times (next (toks l.rest));
}

abbrev pub decreases-loop-sign : goal.decreases-loop-sign
decreases-loop-sign g l = length l.rest
