-- The arguments of facts in memory, run by run.
use Rattle.std.specs.Prelude.{ℕ, ◌==◌, Bool, not, ◌&&◌, List, [], ◌++◌, flat_map, map, if◌then◌else◌}
use Rattle.stage_definitions.specs.Elements.{Cell}
use Rattle.stage_definitions.specs.DataFacts.{are_opposed}
use Rattle.structure_entries.specs.EntryViews.{cell_view}
use Rattle.data_clashes.specs.declared.runs.Run.{Run}
use Rattle.data_clashes.specs.declared.runs.Runs.{Runs}

-- what of the run stands against a fact of this symbol and sign and without a value
abbrev pub run_against : ℕ → Bool → Run → List Cell
run_against symbol holds r = if (r.symbol == symbol) && are_opposed r.holds holds (not r.valued) then map cell_view
    r.cells.items else []

-- the same of all runs
abbrev pub cells_against : ℕ → Bool → Runs → List Cell
cells_against symbol holds rs = flat_map (run_against symbol holds) rs.over.items ++ run_against symbol holds rs.last
