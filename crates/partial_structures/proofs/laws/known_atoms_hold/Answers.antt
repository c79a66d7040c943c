use Rattle.partial_structures.proofs.KnownHold.{known_atoms_hold}
use Rattle.partial_structures.proofs.laws.known_atoms_hold.Goals as goal

pub returns : goal.returns
returns c = known_atoms_hold
