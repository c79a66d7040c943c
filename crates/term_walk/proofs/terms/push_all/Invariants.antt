use Rattle.std.proofs.Common.{◌≡◌, ◌≤◌, map, drop}
use Rattle.std.specs.List.{AllByRecursion}
use Rattle.ground_core.specs.Problems.{ArePartsOf}
use Rattle.def_ground.specs.AskedTerms.{weigh_all}
use Rattle.term_walk.specs.Askable.{summand_view, weighted, others_of, HasSmallRows, HasRowsIn}
use Rattle.term_walk.proofs.terms.push_all.Given as goal

-- with the summands that are left come all
abbrev pub invariant-loop-summand : goal.invariant-loop-summand
invariant-loop-summand l =
    let left = map summand_view (drop l.summand-index l.summands) in
    record {
      same : weigh_all (others_of left) (weighted l.parts l.problem)
          ≡ weigh_all (others_of (map summand_view l.summands)) (weighted l.fn.parts l.fn.problem);
      small : AllByRecursion HasSmallRows left;
      within : AllByRecursion (HasRowsIn l.problem.vars) left;
      parts : ArePartsOf l.problem.vars l.parts;
      grows : l.fn.problem.vars ≤ l.problem.vars;
    }
