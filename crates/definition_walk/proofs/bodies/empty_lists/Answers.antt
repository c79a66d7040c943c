use Rattle.std.proofs.Common.{arith}
use Rattle.definition_walk.proofs.BodyFacts.{empty-next}
use Rattle.definition_walk.proofs.bodies.empty_lists.Goals as goal

pub loop-list-preserved : goal.loop-list-preserved
loop-list-preserved c = record {
  len =
      let was = c.loop-list.invariant.len in
      let size = c.in_ok-push.ensures.len in
      omega (arith, was, size);
  empty =
      empty-next c.loop-list.lists c.push.new.self c.new.result c.in_ok-push.ensures.items c.new.ensures.items
      c.loop-list.invariant.empty;
}
