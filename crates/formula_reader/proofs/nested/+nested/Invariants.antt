use Rattle.std.proofs.Common.{length}
use Rattle.formula_reader.proofs.nested.+nested.Given as goal

abbrev pub decreases-formula : goal.decreases-formula
decreases-formula l = length l.items.now

abbrev pub decreases-content : goal.decreases-content
decreases-content l = length l.items.now

abbrev pub decreases-term : goal.decreases-term
decreases-term l = length l.items.now
