use Rattle.std.proofs.Common.{◌≡◌, ◌*ℤ◌, map, drop}
use Rattle.kb_logic.specs.Trees.{terms_of}
use Rattle.kb_logic.specs.Views.{term_view}
use Rattle.def_ground.specs.Counting.{integer_factor}
use Rattle.ground_walk.proofs.counting.times_integers.Given as goal

-- with the factors that are left comes the whole product
abbrev pub invariant-loop-factor : goal.invariant-loop-factor
invariant-loop-factor l =
    l.product *ℤ integer_factor (terms_of (map term_view (drop l.factor-index l.factors)))
    ≡ l.number *ℤ integer_factor (terms_of (map term_view l.factors))
