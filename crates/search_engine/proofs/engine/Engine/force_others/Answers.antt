use Rattle.std.proofs.Common.{All, sym, ◌∙◌, subst}
use Rattle.ground_core.specs.Problems.{ProblemState}
use Rattle.search_engine.specs.Searching.{IsExplained}
use Rattle.search_engine.proofs.SearchFacts.{continues-trans}
use Rattle.search_engine.proofs.engine.Engine.force_others.Goals as goal

pub force_left-requires-clause-explained : goal.force_left-requires-clause-explained
force_left-requires-clause-explained c = subst (λ (p : ProblemState). All (IsExplained p) c.args.clauses.now)
    (sym c.loop-place.invariant.same.problem) c.requires.explained

pub returns-in_err-force_left-clause-turn : goal.returns-in_err-force_left-clause-turn
returns-in_err-force_left-clause-turn c = λ assume t. c.force_left.ensures.turn assume
    (c.loop-place.invariant.turn assume t)

pub loop-place-preserved : goal.loop-place-preserved
loop-place-preserved c = record {
  search = c.force_left.ensures.search;
  same = continues-trans c.args.self.now c.loop-place.self c.force_left.new.self c.loop-place.invariant.same
      c.force_left.ensures.same;
  turn = λ assume t. c.force_left.ensures.turn assume (c.loop-place.invariant.turn assume t);
  learnt = c.force_left.ensures.learnt ∙ c.loop-place.invariant.learnt;
  refuted = c.force_left.ensures.refuted ∙ c.loop-place.invariant.refuted;
  stays = λ goal-of a. c.in_ok-force_left.ensures.stays goal-of (c.loop-place.invariant.stays goal-of a);
}
