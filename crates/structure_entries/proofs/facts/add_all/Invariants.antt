use Rattle.std.proofs.Common.{◌≡◌, ◌++◌, drop, filter, map}
use Rattle.std.specs.List.{filter_map}
use Rattle.stage_definitions.specs.DataEntries.{fits_in}
use Rattle.stage_definitions.specs.DataFacts.{fact_of}
use Rattle.structure_entries.specs.EntryViews.{fact_view, row_view, subject_view}
use Rattle.structure_entries.proofs.facts.add_all.Given as goal

abbrev pub invariant-loop-row : goal.invariant-loop-row
invariant-loop-row l =
    let x = subject_view l.entry.subject in
    map fact_view l.facts.items ++ filter_map (fact_of l.holds x)
    (filter (fits_in x) (map row_view (drop l.row-index l.entry.rows.items)))
    ≡ map fact_view l.fn.facts.items ++ filter_map (fact_of l.holds x)
    (filter (fits_in x) (map row_view l.entry.rows.items))
