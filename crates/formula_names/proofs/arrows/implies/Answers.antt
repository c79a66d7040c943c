use Rattle.std.proofs.Common.{◌≡◌, length, arith}
use Rattle.std.proofs.lemmas.Grind.{common_steps}
use Rattle.stage_definitions.proofs.Groups.{implies_next, implies_all}
use Rattle.formula_names.proofs.arrows.implies.Goals as goal

pub loop-left-preserved : goal.loop-left-preserved
loop-left-preserved c = implies_next _ _ _ _ c.in-Some-pop.left c.loop-left.right _
    c.in-Some-pop.ensures.items c.in_ok-right.ensures c.loop-left.invariant

pub returns : goal.returns
returns c =
    let none : length c.pop-in-loop-left.new.self.items ≡ 0 = grind (arith, common_steps) in
    implies_all _ _ c.loop-left.more.items c.pop-in-loop-left.new.self.items c.loop-left.right _
    (rw c.in_default-pop.is at c.pop-in-loop-left.ensures.items) none c.in_ok-whole.ensures c.loop-left.invariant
