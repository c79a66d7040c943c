use Rattle.std.proofs.Common.{◌+◌, All, sym, ◌∙◌, subst}
use Rattle.ground_core.specs.Problems.{ProblemState}
use Rattle.search_engine.specs.declared.engine.Engine.{Engine}
use Rattle.search_engine.specs.declared.searching.Outcome.{Outcome}
use Rattle.search_engine.specs.declared.searching.Outcome.TheVariants.{Further}
use Rattle.search_engine.specs.Searching.{IsExplained, TurnEnds}
use Rattle.search_engine.proofs.SumFacts.{all-explained}
use Rattle.search_engine.proofs.engine.Engine.follow_all.Goals as goal

pub force_others-requires-clause-explained : goal.force_others-requires-clause-explained
force_others-requires-clause-explained c =
    let e : Engine = c.args.self.now in
    subst (λ (p : ProblemState). All (IsExplained p) c.args.clauses.now) (sym c.follow_first.ensures.same.problem)
    (all-explained e.problem e.store.trail.values c.args.clauses.now c.requires.search.engine.problem
    c.requires.implied)

pub returns-in_err-force_others-in-Further-clause-turn : goal.returns-in_err-force_others-in-Further-clause-turn
returns-in_err-force_others-in-Further-clause-turn c = λ assume t. c.force_others.ensures.turn assume
    (c.follow_first.ensures.turn assume t)

pub returns-in_ok-force_others-in-Further-clause-turn : goal.returns-in_ok-force_others-in-Further-clause-turn
returns-in_ok-force_others-in-Further-clause-turn c = λ assume t. c.force_others.ensures.turn assume
    (c.follow_first.ensures.turn assume t)

-- the first clause took the search further, and the others do not take it back
pub returns-in_ok-force_others-in-Further-clause-answer : goal.returns-in_ok-force_others-in-Further-clause-answer
returns-in_ok-force_others-in-Further-clause-answer c = λ assume.
    let e : Engine = c.args.self.now in
    let h : TurnEnds assume c.args.most e c.follow_first.new.self Further =
    subst (λ (x : Outcome). TurnEnds assume c.args.most e c.follow_first.new.self x) c.in-Further.is
    (c.in_ok-follow_first.ensures.answer assume) in (
      c.force_others.ensures.refuted ∙ h.0,
      λ goal-of a. c.in_ok-force_others-in-Further.ensures.stays (goal-of + 1) (h.1 goal-of a),
    )

pub returns-in-Answered-clause-answer : goal.returns-in-Answered-clause-answer
returns-in-Answered-clause-answer c = λ assume. subst (λ (x : Outcome). TurnEnds assume c.args.most c.args.self.now
    c.follow_first.new.self x) c.in-Answered.is (c.in_ok-follow_first.ensures.answer assume)

pub returns-in-Open-clause-answer : goal.returns-in-Open-clause-answer
returns-in-Open-clause-answer c = λ assume. subst (λ (x : Outcome). TurnEnds assume c.args.most c.args.self.now
    c.follow_first.new.self x) c.in-Open.is (c.in_ok-follow_first.ensures.answer assume)

pub returns-in-Spent-clause-answer : goal.returns-in-Spent-clause-answer
returns-in-Spent-clause-answer c = λ assume. subst (λ (x : Outcome). TurnEnds assume c.args.most c.args.self.now
    c.follow_first.new.self x) c.in-Spent.is (c.in_ok-follow_first.ensures.answer assume)
