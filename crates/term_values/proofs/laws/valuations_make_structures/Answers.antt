use Rattle.term_values.proofs.StructureLaws.{structure-is}
use Rattle.term_values.proofs.laws.valuations_make_structures.Goals as goal

pub returns : goal.returns
returns c = λ b v is one. structure-is b is v one
