use Rattle.std.proofs.Common.{map, take, fold}
use Rattle.kb_logic.specs.Views.{rule_view}
use Rattle.def_ground.specs.Definitions.{Instances, rule_instances}
use Rattle.definition_walk.specs.Steps.{Stands, BodiesGrow}
use Rattle.definition_walk.proofs.instances.push_rules.Given as goal

-- the instances of the rules so far
abbrev pub invariant-loop-place : goal.invariant-loop-place
invariant-loop-place l = record {
  made :
      (st : Instances) → Stands st l.fn.bodies l.fn.problem
      → Stands (fold (rule_instances l.base) st (map rule_view (take l.place l.rules))) l.bodies l.problem;
  grows : BodiesGrow l.fn.bodies l.bodies l.fn.problem l.problem;
}
