use Rattle.std.proofs.Common.{◌≡◌, [], ◌∷◌, ◌++◌, map, vec_len}
use Rattle.stage_definitions.specs.Numbering as numbers
use Rattle.stage_definitions.specs.NamedViews.{formula_view}
use Rattle.formula_names.proofs.arrows.implies.Given as goal

abbrev pub invariant-loop-left : goal.invariant-loop-left
invariant-loop-left l =
    numbers.implies (formula_view l.first) (map formula_view l.more.items ++ formula_view l.right ∷ [])
    ≡ numbers.implies (formula_view l.fn.first) (map formula_view l.fn.more.items)

abbrev pub decreases-loop-left : goal.decreases-loop-left
decreases-loop-left l = vec_len l.more
