-- The least and the greatest weight of true parts.
use Rattle.std.specs.Prelude.{ℕ, ℤ, Bool, true, false, List, fold}
use Rattle.kb_logic.specs.Denotations.{Denotation, number, minus_infinity, plus_infinity, lesser, greater}
use Rattle.ground_core.specs.declared.parts.Part.{Part}
use Rattle.ground_core.specs.Meaning.{weights_of}

-- the greatest of nothing, or the least
abbrev pub first_extreme : Bool → Denotation
first_extreme true = minus_infinity
first_extreme false = plus_infinity

-- the greater of two values, or the lesser
abbrev pub further_of : Bool → Denotation → Denotation → Denotation
further_of true a b = greater a b
further_of false a b = lesser a b

-- with one weight more
abbrev pub more_extreme : Bool → Denotation → ℤ → Denotation
more_extreme greatest d w = further_of greatest d (number w)

-- and none where the part is not true
abbrev pub extreme_with : Bool → Bool → Denotation → ℤ → Denotation
extreme_with greatest true d w = more_extreme greatest d w
extreme_with greatest false d w = d

-- the greatest weight of the true parts, or the least
abbrev pub extreme_value : Bool → (ℕ → Bool) → List Part → Denotation
extreme_value greatest v ps = fold (further_of greatest) (first_extreme greatest) (weights_of v ps)
