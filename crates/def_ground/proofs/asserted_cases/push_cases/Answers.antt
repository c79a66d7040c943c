use Rattle.std.proofs.Common.{map, sym}
use Rattle.def_ground.specs.CaseViews.{case_view}
use Rattle.def_ground.proofs.CaseSteps.{answer-in, signed-in}
use Rattle.def_ground.proofs.asserted_cases.push_cases.Goals as goal

pub push_answer-requires-clause-answer : goal.push_answer-requires-clause-answer
push_answer-requires-clause-answer c =
    let n = c.args.problem.now.vars in
    rw c.signed.ensures
    (signed-in n c.args.sign c.in-Some.answer
    (answer-in n (map case_view c.args.cases.now) c.in-Some.answer c.requires.cases (sym c.in-Some.ensures)))
