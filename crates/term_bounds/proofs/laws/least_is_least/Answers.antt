use Rattle.term_bounds.proofs.ShareFacts.{least-is-least}
use Rattle.term_bounds.proofs.laws.least_is_least.Goals as goal

pub returns : goal.returns
returns c = least-is-least
