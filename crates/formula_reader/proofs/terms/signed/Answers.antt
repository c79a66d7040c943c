use Rattle.std.proofs.Common.{◌∙◌, List, ℕ, ap, sym}
use Rattle.grammar.specs.View.{factor_view}
use Rattle.formula_reader.specs.Results.{negatives}
use Rattle.formula_reader.proofs.InFactors.{negatives_push}
use Rattle.formula_reader.proofs.terms.signed.Goals as goal

pub loop-place-preserved : goal.loop-place-preserved
loop-place-preserved c =
    let l = c.loop-place.invariant in
    record {
      same = rw c.in_ok-found.ensures (sym (negatives_push _ _ _)
          ∙ ap (λ (ps : List ℕ). negatives ps (factor_view c.loop-place.found)) (sym c.in-Some.ensures) ∙ l.same);
    }
