use Rattle.std.proofs.Common.{◌∙◌, sym}
use Rattle.size_stage.specs.Ranges.{range_view}
use Rattle.size_stage.proofs.Walks.{range_found, range_missing}
use Rattle.size_stage.proofs.domain_integers.type_range.Goals as goal

pub returns-in-Some : goal.returns-in-Some
returns-in-Some c = range_found range_view c.args.domains.now c.args.ranges.now c.requires c.args.ty c.in-Some.range
    (sym c.range_at.ensures ∙ c.in-Some.is)

pub returns-in-None : goal.returns-in-None
returns-in-None c = range_missing range_view c.args.domains.now c.args.ranges.now c.requires c.args.ty
    (sym c.range_at.ensures ∙ c.in-None.is)
