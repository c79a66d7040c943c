use Rattle.std.proofs.Common.{map, sym, arith}
use Rattle.def_ground.specs.CaseViews.{case_view}
use Rattle.def_ground.proofs.CaseSteps.{answer-in}
use Rattle.def_ground.proofs.case_answers.answer_of_cases.Goals as goal

pub returns-in-Some-clause-grows : goal.returns-in-Some-clause-grows
returns-in-Some-clause-grows c = record {
  vars = omega arith;
  within =
      answer-in c.args.problem.now.vars (map case_view c.args.cases.now) c.in-Some.answer c.requires
      (sym c.in-Some.ensures);
}
