use Rattle.std.proofs.Common.{◌≤◌, List, All, length, sym, subst}
use Rattle.std.proofs.lemmas.List.Elements.{All-nil}
use Rattle.lit_core.specs.declared.literals.Lit.{Lit}
use Rattle.ground_core.specs.Problems.{ProblemState}
use Rattle.ground_core.specs.Selectors.{AreSelectors}
use Rattle.ground_core.specs.Meaning.{HasTermsInRange, RefutesAll}
use Rattle.clause_learning.specs.LiveBounds.{IsLive}
use Rattle.clause_learning.proofs.SolverFacts.{solver-laws}
use Rattle.clause_learning.proofs.solver.Solver.forget.Goals as goal

pub returns-clause-laws : goal.returns-clause-laws
returns-clause-laws g c = solver-laws (record {
  alloc = c.self.inside.keeper.alloc;
  engine = c.forget.new.self;
  index =
      c.clear.new.self;
  additions = c.self.inside.keeper.additions;
  live = c.self.inside.keeper.live;
}) (record {
  resting = c.forget.ensures.resting;
  terms = subst HasTermsInRange (sym c.forget.ensures.problem) c.self.invariant.terms;
  few = subst (λ (p : ProblemState). length p.retired ≤ p.vars) (sym c.forget.ensures.problem) c.self.invariant.few;
  selectors = subst (λ (p : ProblemState). AreSelectors p.retired) (sym c.forget.ensures.problem)
      c.self.invariant.selectors;
  indexed = c.clear.ensures.indexed;
  refuted = subst (λ (cs : List (List Lit)). All (RefutesAll c.forget.new.self.problem) cs) (sym c.clear.ensures.empty)
      (All-nil (RefutesAll c.forget.new.self.problem));
  counted = rw c.forget.ensures.searches c.self.invariant.counted;
  live = subst (λ (p : ProblemState). All (IsLive p) c.self.inside.keeper.live.items) (sym c.forget.ensures.problem)
      c.self.invariant.live;
})
