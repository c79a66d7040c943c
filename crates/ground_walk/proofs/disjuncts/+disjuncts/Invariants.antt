use Rattle.std.proofs.Common.{◌≡◌, ◌+◌, ◌*◌, ◌≤◌, map, drop}
use Rattle.plain_evaluation.specs.Environments.{env_view}
use Rattle.kb_logic.specs.Trees.{formulas_of}
use Rattle.kb_logic.specs.Views.{formula_view}
use Rattle.ground_core.specs.Problems.{AreLitsOf}
use Rattle.def_ground.specs.Disjuncts.{all_disjuncts}
use Rattle.ground_walk.specs.Groundable.{AreGroundable}
use Rattle.ground_walk.proofs.disjuncts.+disjuncts.Given as goal

-- with the literals of the formulas that are left come all
abbrev pub invariant-each_disjuncts-loop-formula : goal.invariant-each_disjuncts-loop-formula
invariant-each_disjuncts-loop-formula l =
    let left = formulas_of (map formula_view (drop l.formula-index l.formulas)) in
    record {
      same : all_disjuncts l.scope.base.now l.sign left (env_view l.scope.env.now) l.lits.items l.problem
          ≡ all_disjuncts l.scope.base.now l.sign (formulas_of (map formula_view l.formulas))
          (env_view l.scope.env.now) l.fn.lits.items l.fn.problem;
      fits : AreGroundable l.scope.base.now left (env_view l.scope.env.now);
      vars : l.fn.problem.vars ≤ l.problem.vars;
      lits : AreLitsOf l.problem.vars l.lits.items;
    }

abbrev pub decreases-disjuncts : goal.decreases-disjuncts
decreases-disjuncts l = 2 * goal.size-disjuncts l

abbrev pub decreases-each_disjuncts : goal.decreases-each_disjuncts
decreases-each_disjuncts l = 2 * goal.size-each_disjuncts l + 1
