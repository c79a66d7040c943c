use Rattle.std.proofs.Common.{◌≡◌, ◌++◌, drop, fold, length}
use Rattle.kb_logic.specs.Structures.{choices}
use Rattle.kb_logic.specs.Views.{rule_view}
use Rattle.plain_evaluation.specs.Environments.{env_view}
use Rattle.plain_evaluation.proofs.Folds.{after_front}
use Rattle.def_ground.specs.Definitions.{Instances, instance_step}
use Rattle.definition_walk.specs.Steps.{Stands, BodiesGrow}
use Rattle.definition_walk.proofs.instances.+push_instances.Given as goal

-- from the instances so far those that are left make what all make from the start
abbrev pub invariant-loop-number : goal.invariant-loop-number
invariant-loop-number l =
    let b = l.walk.base.now in
    let F = after_front (λ t a. instance_step b (rule_view l.walk.rule.now) t (env_view l.env ++ a))
    (choices b.domains l.others) in
    let cs = choices b.domains l.block.bounds.now in
    record {
      made : (st : Instances) → Stands st l.fn.bodies l.fn.problem
          → (t : Instances) × Stands t l.bodies l.problem × (fold F t (drop l.number cs) ≡ fold F st cs);
      grows : BodiesGrow l.fn.bodies l.bodies l.fn.problem l.problem;
    }

abbrev pub decreases-push_instances : goal.decreases-push_instances
decreases-push_instances l = length l.bounds.now
