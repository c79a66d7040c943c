use Rattle.std.proofs.Common.{◌≡◌, fold, drop}
use Rattle.lit_core.specs.Literals.{valuation}
use Rattle.ground_core.specs.Meaning.{denotation_of_bound, weights_of}
use Rattle.term_bounds.specs.Amounts.{amount_of}
use Rattle.term_bounds.specs.Extremes.{extreme_value, further_of}
use Rattle.term_bounds.proofs.term_values.extreme_of.Given as goal

-- what was found gives with the rest what all give
abbrev pub invariant-loop-part : goal.invariant-loop-part
invariant-loop-part l = fold (further_of l.fn.greatest) (denotation_of_bound (amount_of l.found))
    (weights_of (valuation l.fn.values) (drop l.part-index l.fn.parts)) ≡ extreme_value l.fn.greatest
    (valuation l.fn.values) l.fn.parts
