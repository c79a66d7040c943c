use Rattle.kb_logic.proofs.Atoms.{atom_is_in_its_types}
use Rattle.logic_laws.proofs.laws.atom_is_in_its_types.Goals as goal

pub returns : goal.returns
returns c = atom_is_in_its_types
