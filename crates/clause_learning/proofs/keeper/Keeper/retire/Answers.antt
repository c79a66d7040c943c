use Rattle.std.proofs.Common.{refl, sym, subst, ⊎_elim, All}
use Rattle.lit_core.proofs.LiteralFacts.{decide_member}
use Rattle.std.proofs.lemmas.List.Elements.{All-filter}
use Rattle.clause_learning.specs.LiveBounds.{IsLive, without_output}
use Rattle.clause_learning.proofs.LiveGrowth.{live-without}
use Rattle.ground_core.specs.Problems.{ProblemState}
use Rattle.ground_core.specs.Meaning.{HasTermsInRange, RefutesAll}
use Rattle.ground_core.specs.Growing.{with_retired}
use Rattle.search_engine.proofs.Known.{retired-first}
use Rattle.clause_learning.specs.declared.keeper.Keeper.{Keeper}
use Rattle.clause_learning.proofs.KeeperFacts.{range-more, refuted-more}
use Rattle.clause_learning.proofs.keeper.Keeper.retire.Goals as goal

pub returns-clause-keeper : goal.returns-clause-keeper
returns-clause-keeper c =
    let a : Keeper = c.args.self.now in
    let p : ProblemState = a.engine.problem in
    let q : ProblemState = c.retire.new.self.problem in
    let h = c.requires.keeper in
    record {
      resting = c.retire.ensures.resting;
      terms = ⊎_elim
          (λ has. subst HasTermsInRange (sym (c.retire.ensures.already has)) h.terms)
          (λ not. subst HasTermsInRange (sym (c.retire.ensures.retired not))
          (range-more p (with_retired p c.args.selector) refl (retired-first p c.args.selector) h.terms))
          (decide_member p.retired c.args.selector);
      few = c.retire.ensures.few;
      selectors = c.retire.ensures.selectors;
      indexed = h.indexed;
      refuted = ⊎_elim
          (λ has. subst (λ (r : ProblemState). All (RefutesAll r) a.index.cores.items)
          (sym (c.retire.ensures.already has)) h.refuted)
          (λ not. subst (λ (r : ProblemState). All (RefutesAll r) a.index.cores.items)
          (sym (c.retire.ensures.retired not)) (refuted-more p (with_retired p c.args.selector)
          (retired-first p c.args.selector) a.index.cores.items h.refuted))
          (decide_member p.retired c.args.selector);
      counted = rw c.retire.ensures.same.searches h.counted;
      live = subst (All (IsLive q)) (sym c.give_up.ensures) (⊎_elim
          (λ has. subst (λ (r : ProblemState). All (IsLive r) (without_output c.args.selector a.live.items))
          (sym (c.retire.ensures.already has)) (All-filter _ (IsLive p) a.live.items h.live))
          (λ not. subst (λ (r : ProblemState). All (IsLive r) (without_output c.args.selector a.live.items))
          (sym (c.retire.ensures.retired not)) (live-without p c.args.selector a.live.items h.live))
          (decide_member p.retired c.args.selector));
    }
