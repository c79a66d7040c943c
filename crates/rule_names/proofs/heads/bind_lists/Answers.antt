use Rattle.std.proofs.Common.{map}
use Rattle.std.proofs.lemmas.List.{take_all}
use Rattle.stage_definitions.specs.NamedViews.{var_view}
use Rattle.rule_names.proofs.HeadLaws.{list_turn}
use Rattle.rule_names.proofs.heads.bind_lists.Goals as goal

pub returns : goal.returns
returns c = rw (take_all _ _ c.loop-binder-test.false) at c.loop-binder.invariant

pub loop-binder-preserved : goal.loop-binder-preserved
loop-binder-preserved c =
    list_turn c.args.walk.now c.loop-binder.walk c.add_binders.new.self (map var_view c.args.vars.now.items) _ _
    c.binder-item.result c.loop-binder.invariant (rw c.get.ensures at c.in_ok-add_binders.ensures)
    c.loop-binder-test.true c.binder-item.is
