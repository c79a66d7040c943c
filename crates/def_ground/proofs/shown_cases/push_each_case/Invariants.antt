use Rattle.std.proofs.Common.{◌≡◌, map, drop}
use Rattle.std.specs.List.{AllByRecursion}
use Rattle.ground_core.specs.Problems.{AreLitsOf}
use Rattle.def_ground.specs.Cases.{with_clauses}
use Rattle.def_ground.specs.Cases.{clauses_saying}
use Rattle.def_ground.specs.CaseViews.{case_view}
use Rattle.def_ground.specs.Meanings.{IsCaseOf}
use Rattle.def_ground.proofs.shown_cases.push_each_case.Given as goal

-- with the clauses of the rest come all
abbrev pub invariant-loop-case : goal.invariant-loop-case
invariant-loop-case l = record {
  all : with_clauses l.problem (clauses_saying l.sign l.lits (map case_view (drop l.case-index l.cases)))
      ≡ with_clauses l.fn.problem (clauses_saying l.sign l.lits (map case_view l.cases));
  lits : AreLitsOf l.problem.vars l.lits;
  cases : AllByRecursion (IsCaseOf l.problem.vars) (map case_view (drop l.case-index l.cases));
}
