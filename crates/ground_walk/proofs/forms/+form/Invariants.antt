use Rattle.std.proofs.Common.{◌≡◌, ◌+◌, ◌*◌, ◌^◌, ◌≤◌, ◌++◌, map, drop, fold, length}
use Rattle.plain_evaluation.specs.Environments.{env_view}
use Rattle.kb_logic.specs.declared.syntax.Formula.{size-Formula}
use Rattle.kb_logic.specs.Structures.{choices}
use Rattle.kb_logic.specs.Trees.{formulas_of, terms_of, summands_of}
use Rattle.kb_logic.specs.Views.{formula_view, term_view, signed_view}
use Rattle.ground_core.specs.Problems.{AreLitsOf, ArePartsOf}
use Rattle.def_ground.specs.Forms.{parts_of, sums_of_summands, sums_of_factors}
use Rattle.def_ground.specs.LinearViews.{linear_view}
use Rattle.ground_walk.specs.Groundable.{AreGroundable, AreSummandsGroundable, AreFactorsGroundable}
use Rattle.ground_walk.specs.Steps.{open_parts, part_step}
use Rattle.ground_walk.specs.Weighing.{weight_view, weighed_step}
use Rattle.plain_evaluation.proofs.Folds.{after_front}
use Rattle.ground_walk.proofs.forms.+form.Given as goal

-- with the parts of the formulas that are left come all
abbrev pub invariant-parts-loop-formula : goal.invariant-parts-loop-formula
invariant-parts-loop-formula l =
    let left = formulas_of (map formula_view (drop l.formula-index l.formulas)) in
    record {
      same : parts_of l.scope.base.now l.all left (env_view l.scope.env.now) l.lits.items l.problem
          ≡ parts_of l.scope.base.now l.all (formulas_of (map formula_view l.formulas))
          (env_view l.scope.env.now) l.fn.lits.items l.fn.problem;
      fits : AreGroundable l.scope.base.now left (env_view l.scope.env.now);
      vars : l.fn.problem.vars ≤ l.problem.vars;
      lits : AreLitsOf l.problem.vars l.lits.items;
    }

-- with the parts of the assignments that are left come all
abbrev pub invariant-instances-loop-number : goal.invariant-instances-loop-number
invariant-instances-loop-number l =
    let F = after_front (λ r x. part_step l.scope.base.now l.all l.sign (formula_view l.binder.formula.now) r (env_view l.scope.env.now ++ x))
    (choices l.scope.base.now.domains l.others) in
    let cs = choices l.scope.base.now.domains l.block.bounds.now in
    record {
      same : fold F (open_parts l.lits.items l.problem) (drop l.number cs)
          ≡ fold F (open_parts l.fn.lits.items l.fn.problem) cs;
      vars : l.fn.problem.vars ≤ l.problem.vars;
      lits : AreLitsOf l.problem.vars l.lits.items;
    }

abbrev pub decreases-form : goal.decreases-form
decreases-form l = 2 ^ 65 * goal.size-form l

abbrev pub decreases-signed_form : goal.decreases-signed_form
decreases-signed_form l = 2 ^ 65 * goal.size-signed_form l + 1

abbrev pub decreases-joined : goal.decreases-joined
decreases-joined l = 2 ^ 65 * goal.size-joined l + 3

abbrev pub decreases-parts : goal.decreases-parts
decreases-parts l = 2 ^ 65 * goal.size-parts l + 2

abbrev pub decreases-implied : goal.decreases-implied
decreases-implied l = 2 ^ 65 * goal.size-implied l + 1

abbrev pub decreases-alike : goal.decreases-alike
decreases-alike l = 2 ^ 65 * goal.size-alike l + 1

abbrev pub decreases-quantified : goal.decreases-quantified
decreases-quantified l = 2 ^ 65 * size-Formula l.binder.formula.now + length l.binder.bounds.now + 3

abbrev pub decreases-instances : goal.decreases-instances
decreases-instances l = 2 ^ 65 * size-Formula l.binder.formula.now + length l.binder.bounds.now + 2

-- with the operands that are left come all
abbrev pub invariant-add_of_operands-loop-operand : goal.invariant-add_of_operands-loop-operand
invariant-add_of_operands-loop-operand l =
    let left = summands_of (map signed_view (drop l.operand-index l.operands)) in
    record {
      same : sums_of_summands l.scope.base.now l.factor left (env_view l.scope.env.now) (linear_view l.linear l.problem)
          ≡ sums_of_summands l.scope.base.now l.factor (summands_of (map signed_view l.operands)) (env_view l.scope.env.now)
          (linear_view l.fn.linear l.fn.problem);
      fits : AreSummandsGroundable l.scope.base.now left (env_view l.scope.env.now);
      vars : l.fn.problem.vars ≤ l.problem.vars;
      parts : ArePartsOf l.problem.vars l.linear.parts;
    }

-- with the factors that are left come all
abbrev pub invariant-add_of_factors-loop-term : goal.invariant-add_of_factors-loop-term
invariant-add_of_factors-loop-term l =
    let left = terms_of (map term_view (drop l.term-index l.terms)) in
    record {
      same : sums_of_factors l.scope.base.now l.factor left (env_view l.scope.env.now) (linear_view l.linear l.problem)
          ≡ sums_of_factors l.scope.base.now l.factor (terms_of (map term_view l.terms)) (env_view l.scope.env.now)
          (linear_view l.fn.linear l.fn.problem);
      fits : AreFactorsGroundable l.scope.base.now left (env_view l.scope.env.now);
      vars : l.fn.problem.vars ≤ l.problem.vars;
      parts : ArePartsOf l.problem.vars l.linear.parts;
    }

-- with the instances that are left come all
abbrev pub invariant-add_instances-loop-number : goal.invariant-add_instances-loop-number
invariant-add_instances-loop-number l =
    let F = after_front (λ st x. weighed_step l.scope.base.now l.weights.kind l.weights.factor (formula_view l.binder.formula.now)
    (weight_view l.weights) st (env_view l.scope.env.now ++ x))
    (choices l.scope.base.now.domains l.others) in
    let cs = choices l.scope.base.now.domains l.block.bounds.now in
    record {
      same : fold F (linear_view l.linear l.problem) (drop l.number cs)
          ≡ fold F (linear_view l.fn.linear l.fn.problem) cs;
      vars : l.fn.problem.vars ≤ l.problem.vars;
      parts : ArePartsOf l.problem.vars l.linear.parts;
    }

abbrev pub decreases-compare_count : goal.decreases-compare_count
decreases-compare_count l = 2 ^ 65 * size-Formula l.binder.formula.now + length l.binder.bounds.now + 3

abbrev pub decreases-compare_extreme : goal.decreases-compare_extreme
decreases-compare_extreme l = 2 ^ 65 * goal.size-compare_extreme l + 2

abbrev pub decreases-compare_sums : goal.decreases-compare_sums
decreases-compare_sums l = 2 ^ 65 * goal.size-compare_sums l + 1

abbrev pub decreases-aggregates_of : goal.decreases-aggregates_of
decreases-aggregates_of l = 2 ^ 65 * goal.size-aggregates_of l + 1

abbrev pub decreases-add_aggregates : goal.decreases-add_aggregates
decreases-add_aggregates l = 2 ^ 65 * goal.size-add_aggregates l

abbrev pub decreases-add_of_operands : goal.decreases-add_of_operands
decreases-add_of_operands l = 2 ^ 65 * goal.size-add_of_operands l + 1

abbrev pub decreases-add_of_factors : goal.decreases-add_of_factors
decreases-add_of_factors l = 2 ^ 65 * goal.size-add_of_factors l + 1

abbrev pub decreases-add_instances : goal.decreases-add_instances
decreases-add_instances l = 2 ^ 65 * size-Formula l.binder.formula.now + length l.binder.bounds.now + 2
