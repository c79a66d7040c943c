use Rattle.definition_walk.proofs.Ranges.{defined-are-ranges}
use Rattle.definition_walk.proofs.laws.defined_are_ranges.Goals as goal

pub returns : goal.returns
returns c = defined-are-ranges
