use Rattle.std.proofs.Common.{◌≡◌, ◌++◌, drop, map}
use Rattle.kb_logic.specs.declared.elements.Elem.{Elem}
use Rattle.stage_definitions.specs.Elements.{one}
use Rattle.structure_entries.specs.EntryViews.{cell_view}
use Rattle.data_refusals.specs.Labels.{tuple_view}
use Rattle.data_clashes.proofs.tables.labels_of.Given as goal

abbrev pub invariant-loop-cell : goal.invariant-loop-cell
invariant-loop-cell l = map cell_view l.cells ≡ map (λ (x : Elem). one x) (tuple_view l.labels.items) ++ map cell_view
    (drop l.cell-index l.cells)
