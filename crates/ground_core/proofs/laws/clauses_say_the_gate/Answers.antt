use Rattle.ground_core.proofs.Clauses.{gate-clauses}
use Rattle.ground_core.proofs.laws.clauses_say_the_gate.Goals as goal

pub returns : goal.returns
returns c = gate-clauses
