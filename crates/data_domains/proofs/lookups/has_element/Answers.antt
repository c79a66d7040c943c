use Rattle.std.proofs.Common.{sym, ap}
use Rattle.stage_definitions.specs.Elements as set
use Rattle.stage_definitions.specs.DataDomains.{cells_of}
use Rattle.structure_entries.specs.EntryViews.{elem_view}
use Rattle.data_domains.proofs.Looked.{set_at, no_cells}
use Rattle.data_domains.proofs.lookups.has_element.Goals as goal

pub returns-in-Some : goal.returns-in-Some
returns-in-Some c = λ all es h. c.contains.ensures (cells_of all es c.args.ty)
    (set_at all es c.args.types.now c.args.ty c.in-Some.data.now h (sym c.in-Some.ensures))

pub returns-in-None : goal.returns-in-None
returns-in-None c = λ all es h. sym (ap (λ cs. set.is_among cs (elem_view c.args.x))
    (no_cells all es c.args.types.now c.args.ty h (sym c.in-None.ensures)))
