use Rattle.std.proofs.Common.{◌≡◌, ◌++◌, List, drop, map}
use Rattle.stage_definitions.specs.DataFacts.{Fact}
use Rattle.structure_entries.specs.EntryViews.{row_view, subject_view}
use Rattle.data_filling.specs.Filling.{Adds, row_facts}
use Rattle.data_filling.proofs.rows.add_rows.Given as goal

abbrev pub invariant-loop-row : goal.invariant-loop-row
invariant-loop-row l =
    let x = subject_view l.entry.subject in
    (done : List Fact) × Adds l.fn.partial l.partial done
    × (done ++ row_facts l.holds x (map row_view (drop l.row-index l.entry.rows.items))
    ≡ row_facts l.holds x (map row_view l.entry.rows.items))
