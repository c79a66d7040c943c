use Rattle.std.proofs.Common.{refl}
use Rattle.std.proofs.lemmas.Bool.{false≢true}
use Rattle.conflict_analysis.proofs.MarkFacts.{last-not-empty}
use Rattle.conflict_analysis.proofs.near_sets.NearSet.is_empty.Goals as goal

pub returns-in-None : goal.returns-in-None
returns-in-None c = (λ _. c.in-None.ensures.none, λ _. refl)

pub returns-in-Some : goal.returns-in-Some
returns-in-Some c = (λ t. absurd (false≢true t), λ e. absurd (last-not-empty _ _ c.in-Some.ensures.some e))
