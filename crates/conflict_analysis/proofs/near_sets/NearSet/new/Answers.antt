use Rattle.std.proofs.Common.{◌∙◌, ap}
use Rattle.conflict_analysis.proofs.MarkFacts.{marked, marked-nothing}
use Rattle.conflict_analysis.proofs.near_sets.NearSet.new.Goals as goal

pub returns : goal.returns
returns c = ap marked c.new.ensures.items ∙ marked-nothing
