use Rattle.std.proofs.Common.{◌≡◌, ◌+◌, ap, arith, map, ◌∙◌}
use Rattle.ground_core.specs.Problems.{ProblemState}
use Rattle.def_ground.specs.CaseViews.{case_view}
use Rattle.def_ground.proofs.CaseLaws.{cases-more}
use Rattle.def_ground.proofs.case_answers.add_cases.Goals as goal

pub push_each_case-requires-clause-cases : goal.push_each_case-requires-clause-cases
push_each_case-requires-clause-cases c =
    let more : c.add_var.new.self.vars ≡ c.args.problem.now.vars + 1 =
    ap (λ (q : ProblemState). q.vars) c.in_ok-out.ensures.made.1 in
    cases-more c.args.problem.now.vars c.add_var.new.self.vars (omega (arith, more)) (map case_view c.args.cases.now)
    c.requires

pub push_each_case-requires-2-clause-cases : goal.push_each_case-requires-2-clause-cases
push_each_case-requires-2-clause-cases c =
    let more : c.push_each_case.new.problem.vars ≡ c.args.problem.now.vars + 1 =
    ap (λ (q : ProblemState). q.vars) c.in_ok-push_each_case.ensures
    ∙ ap (λ (q : ProblemState). q.vars) c.in_ok-out.ensures.made.1 in
    cases-more c.args.problem.now.vars c.push_each_case.new.problem.vars (omega (arith, more))
    (map case_view c.args.cases.now) c.requires
