use Rattle.std.proofs.Common.{◌≡◌}
use Rattle.clause_base.specs.ShortFields.{lists_of}
use Rattle.clause_base.proofs.packing.make_room.Given as goal

abbrev pub invariant-loop-list : goal.invariant-loop-list
invariant-loop-list l = lists_of l.lists ≡ lists_of l.fn.lists
