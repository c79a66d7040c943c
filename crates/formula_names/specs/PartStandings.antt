-- How the parts of a term stand, by one step, and terms that are one factor.
use Rattle.std.specs.Prelude.{Bool, true, false}
use Rattle.grammar.specs.Trees.{Term, product, sum, Product, factor, times}
use Rattle.stage_definitions.specs.declared.standings.Standing.{Standing}
use Rattle.stage_definitions.specs.Standings.{in_product, in_sum, is_signed_integer}

-- the operands of a term that stands so
abbrev pub operands_stand : Standing → Term → Standing
operands_stand s (product p) = s
operands_stand s (sum p a q t) = in_sum s

-- the factors of a product that stands so
abbrev pub factors_stand : Standing → Product → Standing
factors_stand s (factor f) = s
factors_stand s (times f p q) = in_product s (times f p q)

abbrev pub is_lone : Term → Bool
is_lone (product (factor f)) = true
is_lone (product (times f p q)) = false
is_lone (sum p a q t) = false

-- an integer, with signs or without, in brackets or not
abbrev pub is_signed_alone : Term → Bool
is_signed_alone (product (factor f)) = is_signed_integer f
is_signed_alone (product (times f p q)) = false
is_signed_alone (sum p a q t) = false
