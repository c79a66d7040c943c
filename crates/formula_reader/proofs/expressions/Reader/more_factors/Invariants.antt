use Rattle.std.proofs.Common.{◌≡◌, ◌≤◌, List, length, map}
use Rattle.grammar.specs.Terminals.{Tok, toks}
use Rattle.grammar.specs.Trees.{Factor}
use Rattle.grammar.specs.Spelling.{put_product}
use Rattle.grammar.specs.Fine.{FineProduct}
use Rattle.token_reader.specs.Parts.{EndsFactor}
use Rattle.grammar.specs.View.{product_tail_view, product_of}
use Rattle.formula_reader.proofs.expressions.Reader.more_factors.Given as goal

abbrev pub invariant-loop-place : goal.invariant-loop-place
invariant-loop-place g l = record {
  shorter : length l.rest ≤ length l.items;
  so_far : (ts : List Tok) (x : Factor) → ts ≡ put_product (product_of x (map product_tail_view l.initial.more))
      (toks l.items)
      → ts ≡ put_product (product_of x (map product_tail_view l.more)) (toks l.rest);
  fine : (x : Factor) → FineProduct (product_of x (map product_tail_view l.initial.more))
      → FineProduct (product_of x (map product_tail_view l.more));
  ends : EndsFactor (toks l.rest);
}

abbrev pub decreases-loop-place : goal.decreases-loop-place
decreases-loop-place g l = length l.rest
