use Rattle.std.proofs.Common.{◌≤◌, ◌+◌, length, refl, sym, subst, All, arith}
use Rattle.std.proofs.lemmas.List.Elements.{All-weaker}
use Rattle.clause_learning.specs.LiveBounds.{IsLive}
use Rattle.clause_learning.proofs.LiveGrowth.{live-excluded}
use Rattle.ground_core.specs.Problems.{ProblemState}
use Rattle.ground_core.specs.Selectors.{AreSelectors}
use Rattle.ground_core.specs.Meaning.{HasTermsInRange, RefutesAll}
use Rattle.ground_core.specs.Growth.{with_exclusion}
use Rattle.ground_core.proofs.GrowthFacts.{exclusion-restricts}
use Rattle.search_log.specs.Entries.{grows-itself}
use Rattle.clause_learning.specs.declared.keeper.Keeper.{Keeper}
use Rattle.clause_learning.proofs.KeeperFacts.{range-more, refuted-more}
use Rattle.clause_learning.proofs.keeper.Keeper.exclude.Goals as goal

pub returns-clause-keeper : goal.returns-clause-keeper
returns-clause-keeper c =
    let a : Keeper = c.args.self.now in
    let p : ProblemState = a.engine.problem in
    let h = c.requires.keeper in
    let made = c.in_ok-out.ensures.ok.1 in
    let few : length p.retired ≤ p.vars = h.few in
    record {
      resting = c.exclude.ensures.resting;
      terms = subst HasTermsInRange (sym made.problem) (range-more p (with_exclusion p c.args.values.now) refl
          (exclusion-restricts p c.args.values.now) h.terms);
      few = subst (λ (r : ProblemState). length r.retired ≤ r.vars) (sym made.problem) (let more : length p.retired
          ≤ p.vars + 1 = omega (arith, few) in more);
      selectors = subst (λ (r : ProblemState). AreSelectors r.retired) (sym made.problem) h.selectors;
      indexed = h.indexed;
      refuted = subst (λ (r : ProblemState). All (RefutesAll r) a.index.cores.items) (sym made.problem)
          (refuted-more p (with_exclusion p c.args.values.now) (exclusion-restricts p c.args.values.now)
          a.index.cores.items h.refuted);
      counted = rw made.same.searches h.counted;
      live = subst (λ (r : ProblemState). All (IsLive r) a.live.items) (sym made.problem)
          (All-weaker (IsLive p) (IsLive (with_exclusion p c.args.values.now))
          (live-excluded p h.resting.engine.problem c.args.values.now) a.live.items h.live);
    }

pub returns-in_err-copy-clause-says : goal.returns-in_err-copy-clause-says
returns-in_err-copy-clause-says c = grows-itself c.args.self.now.engine.log.entries

pub returns-in_err-reserve-clause-says : goal.returns-in_err-reserve-clause-says
returns-in_err-reserve-clause-says c = grows-itself c.args.self.now.engine.log.entries

-- there was no memory
pub returns-in_err-out-clause-keeper : goal.returns-in_err-out-clause-keeper
returns-in_err-out-clause-keeper c =
    let a : Keeper = c.args.self.now in
    let h = c.requires.keeper in
    let stays = c.in_err-out.ensures.err in
    record {
      resting = c.exclude.ensures.resting;
      terms = subst HasTermsInRange (sym stays.problem) h.terms;
      few = subst (λ (p : ProblemState). length p.retired ≤ p.vars) (sym stays.problem) h.few;
      selectors = subst (λ (p : ProblemState). AreSelectors p.retired) (sym stays.problem) h.selectors;
      indexed = h.indexed;
      refuted = subst (λ (p : ProblemState). All (RefutesAll p) a.index.cores.items) (sym stays.problem) h.refuted;
      counted = rw stays.same.searches h.counted;
      live = subst (λ (p : ProblemState). All (IsLive p) a.live.items) (sym stays.problem)
          h.live;
    }
