use Rattle.std.proofs.Common.{◌≡◌, ◌≤◌, length}
use Rattle.grammar.specs.Terminals.{toks}
use Rattle.formula_reader.specs.Results.{put_minuses}
use Rattle.formula_reader.proofs.terms.minuses.Given as goal

abbrev pub invariant-loop-place : goal.invariant-loop-place
invariant-loop-place l = record {
  shorter : length l.rest ≤ length l.items;
  so_far : put_minuses l.initial.signs (toks l.items) ≡ put_minuses l.signs (toks l.rest);
}

abbrev pub decreases-loop-place : goal.decreases-loop-place
decreases-loop-place l = length l.rest
