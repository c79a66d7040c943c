use Rattle.std.proofs.Common.{subst}
use Rattle.partial_structures.specs.Consistency.{IsConsistent, IsListed}
use Rattle.partial_structures.proofs.Consistent.{known_is_consistent, known_is_listed}
use Rattle.partial_structures.proofs.partial.Partial.consistency.Goals as goal

pub returns : goal.returns
returns c = record {
  consistent = subst IsConsistent c.self.view_is (known_is_consistent c.self.inside);
  listed = subst IsListed c.self.view_is (known_is_listed c.self.inside c.self.invariant.distinct);
}
