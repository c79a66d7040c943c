use Rattle.std.proofs.Common.{length}
use Rattle.search_engine.proofs.GivenBack.{Gives}
use Rattle.search_engine.proofs.passing.give_back.Given as goal

abbrev pub invariant-loop-id : goal.invariant-loop-id
invariant-loop-id l = Gives l.fn.store l.fn.passing.items l.store l.passing.items

abbrev pub decreases-loop-id : goal.decreases-loop-id
decreases-loop-id l = length l.passing.items
