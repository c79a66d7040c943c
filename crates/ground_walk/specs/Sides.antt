-- How the sides of a comparison are compared.
use Rattle.std.specs.Prelude.{Bool, true, false, ◌||◌, Option, Some, None}
use Rattle.kb_logic.specs.declared.syntax.AggKind.{AggKind}
use Rattle.kb_logic.specs.Trees.{TermTree}
use Rattle.def_ground.specs.Counting.{has_aggregate, extreme_of}
use Rattle.ground_walk.specs.declared.counting.Sides.{Sides}
use Rattle.ground_walk.specs.declared.counting.Sides.TheVariants.{Plain, LeftExtreme, RightExtreme, Sums}

-- by whether there is an aggregate, and which sides are minima or maxima
abbrev pub sides_by : Bool → Option AggKind → Option AggKind → Sides
sides_by false left right = Plain
sides_by true (Some k) right = LeftExtreme k
sides_by true None (Some k) = RightExtreme k
sides_by true None None = Sums

abbrev pub sides_between : TermTree → TermTree → Sides
sides_between x y = sides_by (has_aggregate x || has_aggregate y) (extreme_of x) (extreme_of y)
