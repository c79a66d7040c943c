use Rattle.term_bounds.proofs.TotalFacts.{bounds-by-totals}
use Rattle.term_bounds.proofs.laws.bounds_by_totals.Goals as goal

pub returns : goal.returns
returns c = bounds-by-totals
