use Rattle.std.proofs.Common.{◌++◌, List, fold, subst, sym, ap, ◌∙◌}
use Rattle.std.specs.List.{AllByRecursion}
use Rattle.std.proofs.lemmas.Result.{on_ok_weaker}
use Rattle.kb_logic.specs.declared.elements.Elem.{Elem}
use Rattle.kb_logic.specs.Structures.{choices}
use Rattle.kb_logic.specs.Views.{rule_view}
use Rattle.ground_walk.specs.Groundable.{IsGroundable}
use Rattle.def_ground.specs.Definitions.{Instances, instance_step}
use Rattle.definition_walk.specs.Steps.{Stands}
use Rattle.definition_walk.proofs.instances.push_rule.Goals as goal

pub push_instances-requires-clause-fits : goal.push_instances-requires-clause-fits
push_instances-requires-clause-fits c =
    let b = c.args.walk.now.base.now in
    let r = rule_view c.args.walk.now.rule.now in
    subst (λ (e : List Elem). AllByRecursion (λ (a : List Elem). IsGroundable b r.body (e ++ a))
    (choices b.domains c.as_slice.result.now)) (sym c.requires.outer)
    (subst (λ vs. AllByRecursion (IsGroundable b r.body) (choices b.domains vs)) (sym c.as_slice.ensures)
    c.requires.rule.body)

pub returns-clause-made : goal.returns-clause-made
returns-clause-made c =
    let b = c.args.walk.now.base.now in
    let r = rule_view c.args.walk.now.rule.now in
    on_ok_weaker c.push_instances.result (λ made st h. subst (λ (t : Instances). Stands t
    c.push_instances.new.bodies c.push_instances.new.problem)
    (ap (λ (e : List Elem). fold (λ (t : Instances) (a : List Elem). instance_step b r t (e ++ a)) st
    (choices b.domains c.as_slice.result.now)) c.requires.outer
    ∙ ap (λ vs. fold (instance_step b r) st (choices b.domains vs)) c.as_slice.ensures)
    (made st h)) c.push_instances.ensures.made
