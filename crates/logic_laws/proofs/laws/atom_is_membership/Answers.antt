use Rattle.kb_logic.proofs.Atoms.{atom_is_membership}
use Rattle.logic_laws.proofs.laws.atom_is_membership.Goals as goal

pub returns : goal.returns
returns c = atom_is_membership
