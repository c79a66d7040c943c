use Rattle.theory_laws.proofs.TheoryRanges.{terms-in-range}
use Rattle.theory_laws.proofs.laws.terms_are_in_range.Goals as goal

pub returns : goal.returns
returns c = terms-in-range
