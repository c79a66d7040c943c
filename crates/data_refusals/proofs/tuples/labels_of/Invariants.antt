use Rattle.std.proofs.Common.{◌≡◌, ◌++◌, drop, map}
use Rattle.structure_entries.specs.EntryViews.{elem_view}
use Rattle.data_refusals.specs.Labels.{tuple_view}
use Rattle.data_refusals.proofs.tuples.labels_of.Given as goal

abbrev pub invariant-loop-x : goal.invariant-loop-x
invariant-loop-x l = tuple_view l.labels.items ++ map elem_view (drop l.x-index l.elements) ≡ map elem_view l.elements
