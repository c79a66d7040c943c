-- Terms that are one factor.
use Rattle.std.specs.Prelude.{Bool, false}
use Rattle.grammar.specs.Trees.{Term, product, sum, factor, times}
use Rattle.stage_definitions.specs.Uses.{is_integer}

-- an integer, in brackets or not
abbrev pub is_integer_alone : Term → Bool
is_integer_alone (product (factor f)) = is_integer f
is_integer_alone (product (times f p q)) = false
is_integer_alone (sum p a q t) = false
