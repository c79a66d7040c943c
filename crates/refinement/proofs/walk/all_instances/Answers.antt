use Rattle.std.proofs.Common.{[], sym, subst, true, IfSome, Option}
use Rattle.kb_logic.specs.Views.{formula_view}
use Rattle.plain_evaluation.proofs.Envs.{env_view-Given}
use Rattle.row_ranges.specs.Leads.{Leads}
use Rattle.row_ranges.specs.declared.ranges.Ranges.{Ranges}
use Rattle.known_guards.specs.Guards.{IsRuledOut}
use Rattle.refinement.proofs.Guided.{ruled_leads}
use Rattle.refinement.proofs.walk.all_instances.Goals as goal

pub instances-requires-clause-parts : goal.instances-requires-clause-parts
instances-requires-clause-parts c = rw env_view-Given c.requires.parts

pub returns-in_default : goal.returns-in_default
returns-in_default c = rw env_view-Given at c.instances.ensures

pub guided_instances-requires-clause-parts : goal.guided_instances-requires-clause-parts
guided_instances-requires-clause-parts c = rw env_view-Given c.requires.parts

pub guided_instances-requires-clause-led : goal.guided_instances-requires-clause-led
guided_instances-requires-clause-led c =
    let k = c.args.known.now in
    let d = c.args.course.setting.domains.now in
    let f = formula_view c.args.formula.now in
    let bs = c.args.bounds.now in
    let r = c.in-Some.ranges in
    let led : Leads (IsRuledOut k true f) k.domains r.keys.items r.start r.steps.items bs [] =
    subst (λ (o : Option Ranges). IfSome o (λ x. Leads (IsRuledOut k true f) k.domains x.keys.items x.start
    x.steps.items bs [])) c.in-Some.is c.in_ok-ranges.ensures.leads in
    rw (env_view-Given, c.place-place.ensures.keys, c.place-place.ensures.key, c.place-place.ensures.steps)
    (ruled_leads f d r.keys.items r.start r.steps.items bs [] k
    (subst (λ ds. Leads (IsRuledOut k true f) ds r.keys.items r.start r.steps.items bs []) (sym c.requires.domains)
    led))

pub returns : goal.returns
returns c = rw env_view-Given at c.guided_instances.ensures
