use Rattle.atom_numbers.proofs.LiteralFacts.{literals-hold}
use Rattle.atom_numbers.proofs.laws.literals_hold_by_their_variables.Goals as goal

pub returns : goal.returns
returns c = literals-hold
