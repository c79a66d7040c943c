use Rattle.std.proofs.Common.{length}
use Rattle.partial_structures.proofs.ordered.+atoms_beyond.Given as goal

abbrev pub decreases-atoms_beyond : goal.decreases-atoms_beyond
decreases-atoms_beyond l = length l.types.now
