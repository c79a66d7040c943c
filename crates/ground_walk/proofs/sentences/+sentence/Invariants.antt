use Rattle.std.proofs.Common.{◌≡◌, ◌+◌, ◌-◌, ◌*◌, ◌^◌, ◌≤◌, ◌++◌, ◌∷◌, [], map, drop, take, fold, length}
use Rattle.plain_evaluation.specs.Environments.{env_view}
use Rattle.kb_logic.specs.declared.syntax.Formula.{size-Formula}
use Rattle.kb_logic.specs.Structures.{choices}
use Rattle.kb_logic.specs.Trees.{formulas_of}
use Rattle.kb_logic.specs.Views.{formula_view}
use Rattle.ground_core.specs.Problems.{AreLitsOf}
use Rattle.def_ground.specs.Sentences.{assert_all, assert_any}
use Rattle.ground_walk.specs.Groundable.{AreGroundable}
use Rattle.ground_walk.specs.Steps.{assert_step}
use Rattle.plain_evaluation.proofs.Folds.{after_front}
use Rattle.ground_walk.proofs.sentences.+sentence.Given as goal

-- with the formulas that are left come all
abbrev pub invariant-push_all-loop-formula : goal.invariant-push_all-loop-formula
invariant-push_all-loop-formula l =
    let left = formulas_of (map formula_view (drop l.formula-index l.formulas)) in
    record {
      same : assert_all l.scope.base.now l.sign left (env_view l.scope.env.now) l.fn.lits.items l.problem
          ≡ assert_all l.scope.base.now l.sign (formulas_of (map formula_view l.formulas))
          (env_view l.scope.env.now) l.fn.lits.items l.fn.problem;
      fits : AreGroundable l.scope.base.now left (env_view l.scope.env.now);
      vars : l.fn.problem.vars ≤ l.problem.vars;
      lits : l.lits.items ≡ l.fn.lits.items;
      within : AreLitsOf l.problem.vars l.lits.items;
    }

-- with the formulas that are left come all
abbrev pub invariant-push_any-loop-formula : goal.invariant-push_any-loop-formula
invariant-push_any-loop-formula l =
    let left = formulas_of (map formula_view (drop l.formula-index l.others ++ l.last ∷ [])) in
    record {
      same : assert_any l.scope.base.now l.sign left (env_view l.scope.env.now) l.lits.items l.problem
          ≡ assert_any l.scope.base.now l.sign (formulas_of (map formula_view l.formulas))
          (env_view l.scope.env.now) l.fn.lits.items l.fn.problem;
      fits : AreGroundable l.scope.base.now left (env_view l.scope.env.now);
      vars : l.fn.problem.vars ≤ l.problem.vars;
      front : take (length l.fn.lits.items) l.lits.items ≡ l.fn.lits.items;
      within : AreLitsOf l.problem.vars l.lits.items;
    }

-- with the assignments that are left come all
abbrev pub invariant-push_each-loop-number : goal.invariant-push_each-loop-number
invariant-push_each-loop-number l =
    let F = after_front (λ q x. assert_step l.scope.base.now l.sign (formula_view l.binder.formula.now) l.fn.lits.items q
    (env_view l.scope.env.now ++ x))
    (choices l.scope.base.now.domains l.others) in
    let cs = choices l.scope.base.now.domains l.block.bounds.now in
    record {
      same : fold F l.problem (drop l.number cs) ≡ fold F l.fn.problem cs;
      vars : l.fn.problem.vars ≤ l.problem.vars;
      lits : l.lits.items ≡ l.fn.lits.items;
      within : AreLitsOf l.problem.vars l.lits.items;
    }

-- with the assignments that are left come all
abbrev pub invariant-push_led-loop-index : goal.invariant-push_led-loop-index
invariant-push_led-loop-index l =
    let F = after_front (λ q x. assert_step l.scope.base.now l.sign (formula_view l.binder.formula.now) l.fn.lits.items q
    (env_view l.scope.env.now ++ x))
    (choices l.scope.base.now.domains l.others) in
    let cs = choices l.scope.base.now.domains l.block.bounds.now in
    record {
      same : fold F l.problem (drop l.index cs) ≡ fold F l.fn.problem cs;
      within_all : l.index ≤ l.block.count;
      vars : l.fn.problem.vars ≤ l.problem.vars;
      lits : l.lits.items ≡ l.fn.lits.items;
      within : AreLitsOf l.problem.vars l.lits.items;
    }

abbrev pub decreases-push : goal.decreases-push
decreases-push l = 2 ^ 65 * goal.size-push l

abbrev pub decreases-push_under : goal.decreases-push_under
decreases-push_under l = 2 ^ 65 * goal.size-push_under l + 2

abbrev pub decreases-push_last : goal.decreases-push_last
decreases-push_last l = 2 ^ 65 * goal.size-push_last l + 1

abbrev pub decreases-push_joined : goal.decreases-push_joined
decreases-push_joined l = 2 ^ 65 * goal.size-push_joined l + 3

abbrev pub decreases-push_all : goal.decreases-push_all
decreases-push_all l = 2 ^ 65 * goal.size-push_all l + 2

abbrev pub decreases-push_any : goal.decreases-push_any
decreases-push_any l = 2 ^ 65 * goal.size-push_any l + 2

abbrev pub decreases-push_quantified : goal.decreases-push_quantified
decreases-push_quantified l = 2 ^ 65 * size-Formula l.binder.formula.now + length l.binder.bounds.now + 5

abbrev pub decreases-push_instances : goal.decreases-push_instances
decreases-push_instances l = 2 ^ 65 * size-Formula l.binder.formula.now + length l.binder.bounds.now + 4

abbrev pub decreases-push_led : goal.decreases-push_led
decreases-push_led l = 2 ^ 65 * size-Formula l.binder.formula.now + length l.binder.bounds.now + 3

abbrev pub decreases-push_each : goal.decreases-push_each
decreases-push_each l = 2 ^ 65 * size-Formula l.binder.formula.now + length l.binder.bounds.now + 2

abbrev pub decreases-push_led-loop-index : goal.decreases-push_led-loop-index
decreases-push_led-loop-index l = l.block.count - l.index
