use Rattle.term_values.proofs.StructureAtoms.{atom-true}
use Rattle.term_values.proofs.laws.atoms_have_variables.Goals as goal

pub returns : goal.returns
returns c = λ b v n a is at. atom-true b is v n a at
