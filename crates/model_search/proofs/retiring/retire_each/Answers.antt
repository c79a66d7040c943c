use Rattle.ground_core.specs.Solving.{SolveState}
use Rattle.model_search.specs.Retirements.{retired_all}
use Rattle.model_search.proofs.RetirementFacts.{same-in-the-end, others-new, others-fit, first-fits}
use Rattle.model_search.proofs.retiring.retire_each.Goals as goal

pub retire-requires : goal.retire-requires
retire-requires g c = record {
  selector = first-fits (g.S.Solve.state c.loop-selector.s) c.in-Some.selector.now c.in-Some.others.now
      c.loop-selector.rest.now c.in-Some.ensures.cases.0 c.loop-selector.invariant.2;
}

pub loop-selector-preserved : goal.loop-selector-preserved
loop-selector-preserved g c =
    let s : SolveState = g.S.Solve.state c.loop-selector.s in
    let t : SolveState = g.S.Solve.state c.retire.new.self in
    let all : SolveState = retired_all (g.S.Solve.state c.args.s.now) c.args.selectors.now in
    let is = c.in-Some.ensures.cases.0 in (
      same-in-the-end s t c.in-Some.selector.now c.in-Some.others.now c.loop-selector.rest.now is
          c.loop-selector.invariant.1 c.retire.ensures.retired all c.loop-selector.invariant.0,
      others-new s t c.in-Some.selector.now c.in-Some.others.now c.loop-selector.rest.now is c.loop-selector.invariant.1
          c.retire.ensures.retired,
      others-fit s t c.in-Some.selector.now c.in-Some.others.now c.loop-selector.rest.now is c.loop-selector.invariant.1
          c.retire.ensures.retired c.loop-selector.invariant.2,
      c.retire.ensures.kept,
      g.met.S.Solve.goes_on_twice c.args.s.now c.loop-selector.s c.retire.new.self c.loop-selector.invariant.4
          c.retire.ensures.later,
    )
