use Rattle.std.proofs.Common.{◌≡◌, ◌≤◌, drop}
use Rattle.std.specs.List.{AllByRecursion}
use Rattle.ground_core.specs.Problems.{ArePartsOf}
use Rattle.def_ground.specs.AskedTerms.{number_of, differences, other_weights, first_number, weigh_all}
use Rattle.term_walk.specs.Askable.{weighted, IsSmallNumber}
use Rattle.ground_walk.specs.Groundable.{HaveLits}
use Rattle.term_walk.proofs.terms.push_others.Given as goal

-- with the rows that are left come all
abbrev pub invariant-loop-row : goal.invariant-loop-row
invariant-loop-row l =
    let all = l.summand.rows in
    let left = drop l.row all in
    record {
      same : weigh_all (differences l.summand.minus (first_number all) left) (weighted l.parts l.problem)
          ≡ weigh_all (other_weights l.summand.minus all) (weighted l.fn.parts l.fn.problem);
      small : AllByRecursion (λ r. IsSmallNumber (number_of r.1)) left;
      within : HaveLits l.problem.vars left;
      parts : ArePartsOf l.problem.vars l.parts;
      grows : l.fn.problem.vars ≤ l.problem.vars;
    }
