use Rattle.std.proofs.Common.{◌≡◌, length}
use Rattle.grammar.specs.Trees.{value}
use Rattle.grammar.specs.Fine.{FineApp, FineFactor}
use Rattle.grammar.specs.View.{factor_view, app_view}
use Rattle.formula_reader.specs.Results.{wrap_factor}
use Rattle.formula_reader.proofs.formulas.bracketed.Given as goal

abbrev pub invariant-loop-pair : goal.invariant-loop-pair
invariant-loop-pair l = record {
  same : wrap_factor l.rest (factor_view l.found) ≡ wrap_factor l.fn.pairs
      (value (app_view l.fn.app));
  fine : FineApp (app_view l.fn.app) → FineFactor (factor_view l.found);
}

abbrev pub decreases-loop-pair : goal.decreases-loop-pair
decreases-loop-pair l = length l.rest
