-- Integers at positions of functions, in memory.
use Rattle.std.specs.Prelude.{List, map, Option, option_map}
use Rattle.stage_definitions.specs.IntegerArguments as said
use Rattle.structure_entries.specs.WholeViews.{whole_view}
use Rattle.data_refusals.specs.declared.placed.Placed.{Placed}

abbrev pub placed_view : Placed → said.Placed
placed_view p = (whole_view p.number, p.ty)

abbrev pub placed_views : List (Option Placed) → List (Option said.Placed)
placed_views ps = map (λ p. option_map placed_view p) ps
