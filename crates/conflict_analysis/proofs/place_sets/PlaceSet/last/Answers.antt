use Rattle.std.proofs.Common.{ℕ, List, subst}
use Rattle.conflict_analysis.specs.Marked.{HasAsLast}
use Rattle.conflict_analysis.proofs.JoinedSets.{joined-last}
use Rattle.conflict_analysis.proofs.place_sets.PlaceSet.last.Goals as goal

pub returns-in-Some-clause-some : goal.returns-in-Some-clause-some
returns-in-Some-clause-some c = subst (λ (ks : List ℕ). HasAsLast ks c.in-Some.place) c.self.view_is
    (joined-last c.self.inside.near c.self.inside.far.keys c.self.invariant c.in-Some.place c.in-Some.ensures.some)
