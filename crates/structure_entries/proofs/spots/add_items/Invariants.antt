use Rattle.std.proofs.Common.{◌≡◌, ◌++◌, drop, map}
use Rattle.stage_definitions.specs.DataEntries.{item_spots, argument_types}
use Rattle.structure_entries.specs.EntryViews.{items_of, row_view, spot_view, subject_view}
use Rattle.structure_entries.proofs.spots.add_items.Given as goal

abbrev pub invariant-loop-i : goal.invariant-loop-i
invariant-loop-i l =
    let x = subject_view l.subject in
    map spot_view l.spots.items ++ item_spots x (drop l.i (argument_types x)) (items_of l.rest)
    ≡ map spot_view l.fn.spots.items ++ item_spots x (argument_types x) (row_view l.row).items
