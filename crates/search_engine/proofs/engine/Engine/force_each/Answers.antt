use Rattle.std.proofs.Common.{◌∷◌, false, get_or, sym, ◌∙◌, subst}
use Rattle.lit_core.specs.declared.literals.Lit.{Lit}
use Rattle.ground_core.specs.Problems.{ProblemState}
use Rattle.search_engine.specs.Searching.{IsExplained}
use Rattle.search_engine.proofs.SearchFacts.{continues-trans}
use Rattle.search_engine.proofs.engine.Engine.force_each.Goals as goal

pub force_if_left-requires-clause-explained : goal.force_if_left-requires-clause-explained
force_if_left-requires-clause-explained c =
    let none : Lit = record { var = record { 0 = 0 }; positive = false } in
    let l : Lit = get_or c.args.lits.now c.loop-lit.lit-index none in
    subst (λ (p : ProblemState). IsExplained p (l ∷ c.args.reasons.now)) (sym c.loop-lit.invariant.same.problem)
    (c.requires.explained c.loop-lit.lit-index none c.loop-lit-test.true)

pub returns-in_err-force_if_left-clause-turn : goal.returns-in_err-force_if_left-clause-turn
returns-in_err-force_if_left-clause-turn c = λ assume t. c.force_if_left.ensures.turn assume
    (c.loop-lit.invariant.turn assume t)

pub loop-lit-preserved : goal.loop-lit-preserved
loop-lit-preserved c = record {
  search = c.force_if_left.ensures.search;
  same = continues-trans c.args.self.now c.loop-lit.self c.force_if_left.new.self c.loop-lit.invariant.same
      c.force_if_left.ensures.same;
  turn = λ assume t. c.force_if_left.ensures.turn assume (c.loop-lit.invariant.turn assume t);
  learnt = c.force_if_left.ensures.learnt ∙ c.loop-lit.invariant.learnt;
  refuted = c.force_if_left.ensures.refuted ∙ c.loop-lit.invariant.refuted;
  stays = λ goal-of a. c.in_ok-force_if_left.ensures.stays goal-of (c.loop-lit.invariant.stays goal-of a);
}
