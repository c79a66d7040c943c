use Rattle.term_values.proofs.StructureLaws.{only-atoms-matter}
use Rattle.term_values.proofs.laws.only_atoms_matter.Goals as goal

pub returns : goal.returns
returns c = λ b v w is agree. only-atoms-matter b is v w agree
