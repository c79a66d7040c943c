use Rattle.ground_core.proofs.EachAtom.{each-atom}
use Rattle.ground_core.proofs.laws.each_atom_stands_once.Goals as goal

pub returns : goal.returns
returns c = each-atom
