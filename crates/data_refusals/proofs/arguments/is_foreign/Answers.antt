use Rattle.std.proofs.Common.{◌∙◌, ap, not}
use Rattle.structure_entries.specs.WholeViews.{whole_view}
use Rattle.data_refusals.proofs.Noting.{in_domain}
use Rattle.data_refusals.proofs.arguments.is_foreign.Goals as goal

pub returns : goal.returns
returns c = λ all es h p. ap not (c.has_element.ensures all es h ∙ in_domain all es c.args.placed.ty
    (whole_view c.args.placed.number))
