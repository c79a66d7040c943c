use Rattle.std.proofs.Common.{◌∙◌, List, ℕ, ap, sym}
use Rattle.grammar.specs.View.{unary_view}
use Rattle.formula_reader.specs.Results.{nots}
use Rattle.formula_reader.proofs.InOperands.{negated_push}
use Rattle.formula_reader.proofs.formulas.negated.Goals as goal

pub loop-place-preserved : goal.loop-place-preserved
loop-place-preserved c =
    let l = c.loop-place.invariant in
    record {
      same = rw c.in_ok-found.ensures (sym (negated_push _ _ _)
          ∙ ap (λ (ps : List ℕ). nots ps (unary_view c.loop-place.found)) (sym c.in-Some.ensures) ∙ l.same);
    }
