use Rattle.std.proofs.Common.{◌∙◌, sym, ap}
use Rattle.stage_definitions.specs.Elements as set
use Rattle.stage_definitions.specs.DataDomains.{cells_of}
use Rattle.structure_entries.specs.EntryViews.{cell_view, elem_view}
use Rattle.structure_entries.specs.declared.elements.Cell.TheVariants.{Span}
use Rattle.data_domains.proofs.Looked.{set_at, no_cells}
use Rattle.data_domains.proofs.lookups.covers.Goals as goal

pub returns-in-Some : goal.returns-in-Some
returns-in-Some c = λ all es h. c.covers.ensures (cells_of all es c.args.ty)
    (set_at all es c.args.types.now c.args.ty c.in-Some.data.now h (sym c.in-Some.ensures))

pub returns-in-One : goal.returns-in-One
returns-in-One c = λ all es h. rw c.in-One.is (sym (ap (λ cs. set.is_among cs (elem_view c.in-One.field-0))
    (no_cells all es c.args.types.now c.args.ty h (sym c.in-None.ensures))))

pub returns-in-Span : goal.returns-in-Span
returns-in-Span c = λ all es h. rw c.in-Span.is (c.is_empty.ensures
    ∙ sym (ap (λ cs. set.is_covered cs (cell_view (Span c.in-Span.low c.in-Span.high)))
    (no_cells all es c.args.types.now c.args.ty h (sym c.in-None.ensures))))
