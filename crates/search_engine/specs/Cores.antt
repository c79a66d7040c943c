-- Which assumptions are to blame.
use Rattle.std.specs.Prelude.{List, Contains}
use Rattle.lit_core.specs.declared.literals.Lit.{Lit}
use Rattle.ground_core.specs.Solving.{IsSublist}
use Rattle.search_engine.specs.declared.lit_sets.LitSet.{LitSet}
use Rattle.search_engine.specs.LitSets.{HasLit}

-- those of the assumptions, in their order, that are in the set
pub record IsCoreOf (assume : List Lit) (blamed : LitSet) (core : List Lit) : Type 0 where
  pub sublist : IsSublist core assume
  pub covers : (l : Lit) → Contains assume l → HasLit blamed l → Contains core l
  pub from : (l : Lit) → Contains core l → HasLit blamed l
