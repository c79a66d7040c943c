use Rattle.lit_core.proofs.Freshness.{stays_open-from_fresh, fresh-from_stays_open}
use Rattle.lit_core.proofs.laws.freshness_is_closure.Goals as goal

pub returns : goal.returns
returns c = λ clauses d l. (stays_open-from_fresh clauses d l, fresh-from_stays_open clauses d l)
