use Rattle.ground_core.proofs.RetiredFacts.{fresh-no-tautology}
use Rattle.ground_core.proofs.laws.fresh_clauses_are_no_tautologies.Goals as goal

pub returns : goal.returns
returns c = fresh-no-tautology
