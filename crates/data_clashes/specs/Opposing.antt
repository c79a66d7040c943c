-- The cells that a fact with one argument and no value must not share with.
use Rattle.std.specs.Prelude.{ℕ, ◌==◌, Bool, ◌&&◌, List, [], ◌∷◌, None, flat_map, if◌then◌else◌}
use Rattle.stage_definitions.specs.Elements.{Cell}
use Rattle.stage_definitions.specs.DataFacts.{Fact, are_opposed, same_value_of}

-- the fact clashes with one of this symbol and sign and without a value, where they share
abbrev pub is_against : ℕ → Bool → Fact → Bool
is_against symbol holds f = (f.symbol == symbol) && are_opposed f.holds holds (same_value_of f.value None)

-- the only argument
abbrev pub only_cell : List Cell → List Cell
only_cell [] = []
only_cell (c ∷ []) = c ∷ []
only_cell (c ∷ d ∷ ds) = []

-- the argument of a fact that stands against one of this symbol and sign
abbrev pub opposing_of : ℕ → Bool → Fact → List Cell
opposing_of symbol holds f = if is_against symbol holds f then only_cell f.args else []

-- the arguments of all that stand against it
abbrev pub opposing : ℕ → Bool → List Fact → List Cell
opposing symbol holds fs = flat_map (opposing_of symbol holds) fs
