use Rattle.std.proofs.Common.{◌≡◌, ◌∷◌, ◌≤◌, ℕ, List, length, map}
use Rattle.grammar.specs.declared.terminal.Terminal.TheVariants as t
use Rattle.grammar.specs.Terminals.{Tok, toks, sign}
use Rattle.grammar.specs.Trees.{Term}
use Rattle.grammar.specs.Spelling.{put_terms}
use Rattle.grammar.specs.Fine.{FineTerms}
use Rattle.token_reader.specs.Parts.{EndsTerm}
use Rattle.grammar.specs.View.{terms_tail_view, terms_of}
use Rattle.formula_reader.proofs.expressions.Reader.more_terms.Given as goal

abbrev pub invariant-loop-place : goal.invariant-loop-place
invariant-loop-place g l = record {
  shorter : length l.rest ≤ length l.items;
  so_far : (ts : List Tok) (start : ℕ) (x : Term) → ts ≡ sign t.Open start ∷ put_terms
      (terms_of x (map terms_tail_view l.initial.more)) (toks l.items)
      → ts ≡ sign t.Open start ∷ put_terms (terms_of x (map terms_tail_view l.more)) (toks l.rest);
  fine : (x : Term) → FineTerms (terms_of x (map terms_tail_view l.initial.more))
      → FineTerms (terms_of x (map terms_tail_view l.more));
  ends : EndsTerm (toks l.rest);
}

abbrev pub decreases-loop-place : goal.decreases-loop-place
decreases-loop-place g l = length l.rest
