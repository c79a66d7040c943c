use Rattle.std.proofs.Common.{◌≡◌, length}
use Rattle.grammar.specs.View.{unary_view}
use Rattle.formula_reader.specs.Results.{nots}
use Rattle.formula_reader.proofs.formulas.negated.Given as goal

abbrev pub invariant-loop-place : goal.invariant-loop-place
invariant-loop-place l = record { same : nots l.signs (unary_view l.found) ≡ nots l.fn.signs (unary_view l.fn.first) }

abbrev pub decreases-loop-place : goal.decreases-loop-place
decreases-loop-place l = length l.signs
