use Rattle.std.proofs.Common.{◌≡◌, ◌++◌, ◌+◌, map, take, vec_capacity}
use Rattle.lit_core.proofs.clause_lists.add_ends.Given as goal

abbrev pub invariant-loop-end : goal.invariant-loop-end
invariant-loop-end l = (l.ends.items ≡ l.fn.ends.items ++ map (λ e. l.before + e) (take l.end-index l.more))
    × (vec_capacity l.ends ≡ vec_capacity l.fn.ends)
