use Rattle.std.proofs.Common.{◌≡◌, ◌++◌, List, length, map}
use Rattle.std.specs.Option.{option_map}
use Rattle.stage_definitions.specs.Elements.{Cell}
use Rattle.stage_definitions.specs.DataFacts.{cells_read}
use Rattle.structure_entries.specs.EntryViews.{cell_view, items_of}
use Rattle.structure_entries.proofs.facts.cells_read.Given as goal

abbrev pub invariant-loop-item : goal.invariant-loop-item
invariant-loop-item l =
    option_map (λ (cs : List Cell). map cell_view l.cells.items ++ cs) (cells_read l.in_plain_list (items_of l.rest))
    ≡ cells_read l.in_plain_list (items_of l.items)

abbrev pub decreases-loop-item : goal.decreases-loop-item
decreases-loop-item l = length (items_of l.rest)
