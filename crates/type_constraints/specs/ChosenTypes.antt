-- The types of all variables in the order in which they are bound in the text.
use Rattle.std.specs.Prelude.{ℕ, List, [], ◌++◌, map}
use Rattle.stage_definitions.specs.Demands.{Part, demand, scope, Parts, no_parts, more_parts}
use Rattle.stage_definitions.specs.TypedTrees.{chosen}

-- the types of all variables in parts, as they are found
abbrev mutual
  pub types_at : Part → List ℕ
  types_at (demand d) = []
  types_at (scope bs ps) = map (λ b. chosen b.finding) bs ++ types_among ps

  pub types_among : Parts → List ℕ
  types_among no_parts = []
  types_among (more_parts p ps) = types_at p ++ types_among ps
