use Rattle.std.proofs.Common.{◌-◌, length}
use Rattle.clause_base.specs.ShortFields.{IsLonger, lists_of}
use Rattle.clause_base.proofs.short_clauses.add_empty.Given as goal

abbrev pub invariant-loop-alloc : goal.invariant-loop-alloc
invariant-loop-alloc l = IsLonger (lists_of l.fn.lists) (lists_of l.lists)

abbrev pub decreases-loop-alloc : goal.decreases-loop-alloc
decreases-loop-alloc l = l.count - length l.lists.items
