use Rattle.std.proofs.Common.{◌∙◌, ℕ, List, Contains, IsTrue, ap, sym, subst, ◌==◌}
use Rattle.std.proofs.lemmas.Bool.{false≢true}
use Rattle.conflict_analysis.proofs.MarkFacts.{marked, marked-if, marked-past}
use Rattle.conflict_analysis.proofs.near_sets.NearSet.contains.Goals as goal

pub returns-in-Some : goal.returns-in-Some
returns-in-Some c =
    subst (λ (ks : List ℕ). (IsTrue (c.in-Some.mark.now == 1) → Contains ks c.args.place)
    × (Contains ks c.args.place → IsTrue (c.in-Some.mark.now == 1))) (ap marked c.deref.ensures.value ∙ c.self.view_is)
    (marked-if c.deref.result.now c.args.place c.in-Some.mark.now c.in-Some.ensures.lookup.3.0
    (c.in-Some.ensures.lookup.3.1 0))

pub returns-in-None : goal.returns-in-None
returns-in-None c = (
  λ t. absurd (false≢true t),
  λ has. absurd (marked-past c.deref.result.now c.args.place (λ lt. false≢true (c.in-None.ensures.lookup.2 lt))
      (subst (λ (ks : List ℕ). Contains ks c.args.place) (sym (ap marked c.deref.ensures.value ∙ c.self.view_is)) has)),
)
