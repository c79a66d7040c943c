use Rattle.std.proofs.Common.{◌≡◌, length}
use Rattle.grammar.specs.Trees.{atom}
use Rattle.grammar.specs.View.{prim_view, app_view}
use Rattle.formula_reader.specs.Results.{wrap_prim}
use Rattle.formula_reader.proofs.formulas.wrapped.Given as goal

abbrev pub invariant-loop-pair : goal.invariant-loop-pair
invariant-loop-pair l = record {
  same : wrap_prim l.rest (prim_view l.found) ≡ wrap_prim l.fn.pairs
      (atom (app_view l.fn.app));
}

abbrev pub decreases-loop-pair : goal.decreases-loop-pair
decreases-loop-pair l = length l.rest
