use Rattle.std.proofs.Common.{◌≡◌, ◌∙◌, ℕ, List, [], IfNone, IfSome, ap, subst}
use Rattle.conflict_analysis.specs.Marked.{HasAsLast}
use Rattle.conflict_analysis.proofs.MarkFacts.{marked, last-none, last-some}
use Rattle.conflict_analysis.proofs.near_sets.NearSet.last.Goals as goal

pub returns-clause-none : goal.returns-clause-none
returns-clause-none c =
    subst (λ (ks : List ℕ). IfNone c.memrchr.result (ks ≡ [])) (ap marked c.deref.ensures.value ∙ c.self.view_is)
    (last-none c.deref.result.now c.memrchr.result c.memrchr.ensures)

pub returns-clause-some : goal.returns-clause-some
returns-clause-some c =
    subst (λ (ks : List ℕ). IfSome c.memrchr.result (HasAsLast ks)) (ap marked c.deref.ensures.value ∙ c.self.view_is)
    (last-some c.deref.result.now c.memrchr.result c.memrchr.ensures)
