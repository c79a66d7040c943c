-- The four kinds as one: a sum of gains against a goal.
use Rattle.std.specs.Prelude.{ℤ, pos, ◌+ℤ◌, int_le, Bool, true, false, not, if◌then◌else◌, List, [], ◌∷◌}
use Rattle.kb_logic.specs.declared.elements.ExtInt.{ExtInt}
use Rattle.kb_logic.specs.declared.elements.ExtInt.TheVariants.{NegInf, Num, PosInf}
use Rattle.kb_logic.specs.declared.syntax.AggKind.{AggKind}
use Rattle.kb_logic.specs.declared.syntax.AggKind.TheVariants as kind
use Rattle.kb_logic.specs.Denotations.{number}
use Rattle.ground_core.specs.declared.parts.Part.{Part}
use Rattle.ground_core.specs.Intervals.{reaches}

-- what a part that counts adds: a maximum counts the weights that reach the bound, a minimum those that do not
abbrev pub gain : AggKind → ExtInt → ℤ → ℤ
gain kind.Count least w = pos 1
gain kind.Sum least w = w
gain kind.Min least w = if reaches least (number w) then pos 0 else pos 1
gain kind.Max least w = if reaches least (number w) then pos 1 else pos 0

-- some part reaches the bound, or the bound is minus infinity
abbrev pub max_goal : ExtInt → ExtInt
max_goal NegInf = NegInf
max_goal (Num b) = Num (pos 1)
max_goal PosInf = Num (pos 1)

-- what the sum of gains has to reach: the bound itself, or 1 where gains count parts
abbrev pub goal_of : AggKind → ExtInt → ExtInt
goal_of kind.Count least = least
goal_of kind.Sum least = least
goal_of kind.Min least = Num (pos 1)
goal_of kind.Max least = max_goal least

-- a minimum reaches the bound where the sum does not reach the goal
abbrev pub with_side : AggKind → Bool → Bool
with_side kind.Count b = b
with_side kind.Sum b = b
with_side kind.Min b = not b
with_side kind.Max b = b

-- a gain, or none
abbrev pub gain_if : Bool → ℤ → ℤ
gain_if b w = if b then w else pos 0

-- what the chosen parts gain together
abbrev pub total : (Part → Bool) → AggKind → ExtInt → List Part → ℤ
total f k least [] = pos 0
total f k least (p ∷ ps) = gain_if (f p) (gain k least p.weight) +ℤ total f k least ps

-- whether the sum is at least the goal
abbrev pub met : ExtInt → ℤ → Bool
met NegInf z = true
met (Num b) z = int_le b z
met PosInf z = false
