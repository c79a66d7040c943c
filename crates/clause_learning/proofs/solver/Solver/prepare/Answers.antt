use Rattle.std.proofs.Common.{◌≤◌, All, length, sym, subst}
use Rattle.ground_core.specs.Problems.{ProblemState}
use Rattle.ground_core.specs.Selectors.{AreSelectors}
use Rattle.ground_core.specs.Meaning.{HasTermsInRange, RefutesAll}
use Rattle.search_engine.specs.declared.engine.Engine.{Engine}
use Rattle.search_engine.specs.Resting.{IsResting, Stays}
use Rattle.clause_learning.specs.declared.keeper.Keeper.{Keeper}
use Rattle.clause_learning.specs.Keeping.{IsKeeper}
use Rattle.clause_learning.specs.LiveBounds.{IsLive}
use Rattle.clause_learning.proofs.SolverFacts.{solver-laws}
use Rattle.clause_learning.proofs.solver.Solver.prepare.Goals as goal

prepared : (a : Keeper) (f : Engine) → IsKeeper a → IsResting f → Stays a.engine f
    → IsKeeper (record { alloc = a.alloc; engine = f; index = a.index; additions = a.additions; live = a.live })
prepared a f h resting stays = record {
  resting = resting;
  terms = subst HasTermsInRange (sym stays.problem) h.terms;
  few = subst (λ (p : ProblemState). length p.retired ≤ p.vars) (sym stays.problem) h.few;
  selectors = subst (λ (p : ProblemState). AreSelectors p.retired) (sym stays.problem) h.selectors;
  indexed = h.indexed;
  refuted = subst (λ (p : ProblemState). All (RefutesAll p) a.index.cores.items) (sym stays.problem) h.refuted;
  counted = rw stays.same.searches h.counted;
  live = subst (λ (p : ProblemState). All (IsLive p) a.live.items) (sym stays.problem) h.live;
}

pub invariant_of-self : goal.invariant_of-self
invariant_of-self g c = prepared c.self.inside.keeper c.prepare.new.self c.self.invariant c.prepare.ensures.resting
    c.prepare.ensures.same

pub returns-clause-laws : goal.returns-clause-laws
returns-clause-laws g c = solver-laws (record {
  alloc = c.self.inside.keeper.alloc;
  engine = c.prepare.new.self;
  index = c.self.inside.keeper.index;
  additions = c.self.inside.keeper.additions;
  live = c.self.inside.keeper.live;
}) (prepared c.self.inside.keeper c.prepare.new.self c.self.invariant c.prepare.ensures.resting c.prepare.ensures.same)
