use Rattle.std.proofs.Common.{◌≡◌, ◌≤◌, length}
use Rattle.grammar.specs.Terminals.{toks}
use Rattle.formula_reader.specs.Results.{put_nots}
use Rattle.formula_reader.proofs.formulas.tildes.Given as goal

abbrev pub invariant-loop-place : goal.invariant-loop-place
invariant-loop-place l = record {
  shorter : length l.rest ≤ length l.items;
  so_far : put_nots l.initial.signs (toks l.items) ≡ put_nots l.signs (toks l.rest);
}

abbrev pub decreases-loop-place : goal.decreases-loop-place
decreases-loop-place l = length l.rest
