use Rattle.std.proofs.Common.{map, take, fold, subst, sym, arith}
use Rattle.kb_logic.specs.Views.{rule_view}
use Rattle.def_ground.specs.Definitions.{Instances, rule_instances}
use Rattle.definition_walk.specs.Steps.{Stands, CanBeGround, HasLists}
use Rattle.definition_walk.proofs.Grown.{grow-on, lists-stay}
use Rattle.definition_walk.proofs.RuleSteps.{rules-next, rule-at}
use Rattle.definition_walk.proofs.instances.push_rules.Goals as goal

pub push_rule-requires-clause-rule : goal.push_rule-requires-clause-rule
push_rule-requires-clause-rule c =
    rule-at (CanBeGround c.args.base.now) c.args.rules.now c.requires.rules c.loop-place.place
    c.index-rules-place.result (omega (arith, c.loop-place-test.true)) c.index-rules-place.is

pub push_rule-requires-clause-lists : goal.push_rule-requires-clause-lists
push_rule-requires-clause-lists c =
    let rule = c.index-rules-place.result in
    lists-stay c.args.base.now rule.symbol c.args.bodies.now c.loop-place.bodies c.args.problem.now
    c.loop-place.problem c.loop-place.invariant.grows
    (subst (λ r. HasLists c.args.base.now r.symbol c.args.bodies.now) (sym c.index-rules-place.is)
    (c.requires.lists c.loop-place.place rule (omega (arith, c.loop-place-test.true))))

pub loop-place-preserved : goal.loop-place-preserved
loop-place-preserved c =
    let b = c.args.base.now in
    let rule = c.index-rules-place.result in
    let rules = c.args.rules.now in
    let k = c.loop-place.place in
    record {
      made = λ st h. let s = fold (rule_instances b) st (map rule_view (take k rules)) in
          subst (λ (t : Instances). Stands t c.push_rule.new.bodies c.push_rule.new.problem)
          (sym (rules-next b rules k rule st (omega (arith, c.loop-place-test.true)) c.index-rules-place.is))
          (c.in_ok-push_rule.ensures.made s (c.loop-place.invariant.made st h));
      grows = grow-on c.args.bodies.now c.loop-place.bodies c.push_rule.new.bodies c.args.problem.now
          c.loop-place.problem c.push_rule.new.problem c.loop-place.invariant.grows c.in_ok-push_rule.ensures.grows;
    }
