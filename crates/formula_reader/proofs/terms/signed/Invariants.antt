use Rattle.std.proofs.Common.{◌≡◌, length}
use Rattle.grammar.specs.View.{factor_view}
use Rattle.formula_reader.specs.Results.{negatives}
use Rattle.formula_reader.proofs.terms.signed.Given as goal

abbrev pub invariant-loop-place : goal.invariant-loop-place
invariant-loop-place l = record {
  same : negatives l.signs (factor_view l.found) ≡ negatives l.fn.signs
      (factor_view l.fn.first);
}

abbrev pub decreases-loop-place : goal.decreases-loop-place
decreases-loop-place l = length l.signs
