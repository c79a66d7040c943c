use Rattle.std.proofs.Common.{refl, sym, subst, ◌∙◌, IfSome, arith}
use Rattle.std.proofs.lemmas.Result.{on_ok_weaker}
use Rattle.kb_logic.specs.Views.{rule_view}
use Rattle.plain_evaluation.specs.Environments.{env_view}
use Rattle.definition_walk.specs.Lists.{lists_of}
use Rattle.definition_walk.specs.Steps.{IsVarOf}
use Rattle.definition_walk.proofs.BodyFacts.{lists-later}
use Rattle.definition_walk.proofs.RuleSteps.{instance-stands}
use Rattle.definition_walk.proofs.instances.push_instance.Goals as goal

pub returns-in_ok-body-in-Some-clause-made : goal.returns-in_ok-body-in-Some-clause-made
returns-in_ok-body-in-Some-clause-made c =
    let b = c.args.walk.now.base.now in
    let r = rule_view c.args.walk.now.rule.now in
    let own : IsVarOf b r.symbol c.in-Some.var =
    subst (λ o. IfSome o (λ n. IsVarOf b r.symbol n)) c.in-Some.is c.in_ok-head_var.ensures.own in
    let low = own.low in
    let lists = c.requires.lists.low own.declared in
    on_ok_weaker c.add_body.result (λ more st. instance-stands b r (env_view c.args.env.now) st c.args.bodies.now
    (record { first = c.args.bodies.now.first; lists = c.add_body.new.lists })
    c.args.problem.now c.form.new.problem c.in-Some.var _ c.in_ok-body-in-Some.body
    (sym c.in-Some.is ∙ c.in_ok-head_var.ensures.var) (omega (arith, low, lists)) refl refl
    c.in_ok-body-in-Some.ensures.made more) c.add_body.ensures.more

pub returns-in_ok-body-in-Some-clause-grows : goal.returns-in_ok-body-in-Some-clause-grows
returns-in_ok-body-in-Some-clause-grows c =
    let grows = c.in_ok-body-in-Some.ensures.grows in
    on_ok_weaker c.add_body.result (λ within. record {
      first = refl;
      len = c.add_body.ensures.len;
      vars = grows.vars;
      within = λ w. within c.form.new.problem.vars grows.within
          (lists-later c.args.problem.now.vars c.form.new.problem.vars grows.vars (lists_of c.args.bodies.now.lists) w);
    }) c.add_body.ensures.within
