use Rattle.std.proofs.Common.{◌≤◌, ◌+◌, ◌++◌, ◌∷◌, [], List, length, refl, sym, ap, ◌∙◌, subst, All, arith}
use Rattle.lit_core.specs.declared.literals.Lit.{Lit}
use Rattle.clause_learning.specs.LiveBounds.{IsLive}
use Rattle.clause_learning.proofs.LiveGrowth.{live-with-bound}
use Rattle.ground_core.specs.declared.parts.TermBound.{TermBound}
use Rattle.ground_core.specs.Problems.{ProblemState}
use Rattle.ground_core.specs.Selectors.{AreSelectors}
use Rattle.ground_core.specs.Meaning.{HasTermsInRange, RefutesAll}
use Rattle.ground_core.specs.Growth.{with_bound}
use Rattle.ground_core.proofs.GrowthFacts.{bound-restricts}
use Rattle.search_log.specs.Entries.{grows-itself}
use Rattle.clause_learning.specs.declared.keeper.Keeper.{Keeper}
use Rattle.clause_learning.proofs.KeeperFacts.{range-more, refuted-more}
use Rattle.clause_learning.proofs.keeper.Keeper.bound.Goals as goal

pub returns-clause-keeper : goal.returns-clause-keeper
returns-clause-keeper c =
    let a : Keeper = c.args.self.now in
    let p : ProblemState = a.engine.problem in
    let q : ProblemState = with_bound p c.args.term c.args.below in
    let h = c.requires.keeper in
    let made = c.in_ok-out.ensures.ok.1 in
    let few : length p.retired ≤ p.vars = h.few in
    let less = bound-restricts p c.args.term c.args.below in
    record {
      resting = c.bound.ensures.resting;
      terms = subst HasTermsInRange (sym made.problem) (range-more p q refl less h.terms);
      few = subst (λ (r : ProblemState). length r.retired ≤ r.vars) (sym made.problem) (let more : length p.retired
          ≤ p.vars + 1 = omega (arith, few) in more);
      selectors = subst (λ (r : ProblemState). AreSelectors r.retired) (sym made.problem) h.selectors;
      indexed = h.indexed;
      refuted = subst (λ (r : ProblemState). All (RefutesAll r) a.index.cores.items) (sym made.problem)
          (refuted-more p q less a.index.cores.items h.refuted);
      counted = rw made.same.searches h.counted;
      live = subst (λ (r : ProblemState). All (IsLive r) c.push_reserved-2.new.self.items) (sym made.problem)
          (subst (All (IsLive q)) (sym (c.push_reserved-2.ensures.items
          ∙ ap (λ (bs : List TermBound). bs ++ record {
            out = c.in_ok-out.out;
            term = c.args.term;
            below =
                c.args.below;
          } ∷ [])
          c.in_ok-reserve-2.ensures.items
          ∙ ap (λ (o : Lit). a.live.items ++ record { out = o; term = c.args.term; below = c.args.below } ∷ [])
          c.in_ok-out.ensures.ok.0))
          (live-with-bound p h.resting.engine.problem c.args.term c.args.below a.live.items h.live));
    }

pub returns-in_err-reserve-clause-says : goal.returns-in_err-reserve-clause-says
returns-in_err-reserve-clause-says c = grows-itself c.args.self.now.engine.log.entries

pub returns-in_err-reserve-2-clause-says : goal.returns-in_err-reserve-2-clause-says
returns-in_err-reserve-2-clause-says c = grows-itself c.args.self.now.engine.log.entries

-- there was no memory
pub returns-in_err-out-clause-keeper : goal.returns-in_err-out-clause-keeper
returns-in_err-out-clause-keeper c =
    let a : Keeper = c.args.self.now in
    let h = c.requires.keeper in
    let stays = c.in_err-out.ensures.err in
    record {
      resting = c.bound.ensures.resting;
      terms = subst HasTermsInRange (sym stays.problem) h.terms;
      few = subst (λ (p : ProblemState). length p.retired ≤ p.vars) (sym stays.problem) h.few;
      selectors = subst (λ (p : ProblemState). AreSelectors p.retired) (sym stays.problem) h.selectors;
      indexed = h.indexed;
      refuted = subst (λ (p : ProblemState). All (RefutesAll p) a.index.cores.items) (sym stays.problem) h.refuted;
      counted = rw stays.same.searches h.counted;
      live = subst (λ (p : ProblemState). All (IsLive p) c.reserve-2.new.self.items) (sym stays.problem)
          (subst (All (IsLive a.engine.problem)) (sym c.in_ok-reserve-2.ensures.items) h.live);
    }
