use Rattle.std.proofs.Common.{◌≡◌, ◌++◌, take, vec_capacity}
use Rattle.clause_base.proofs.clause_db.append.Given as goal

abbrev pub invariant-loop-lit : goal.invariant-loop-lit
invariant-loop-lit l = (l.arena.items ≡ l.fn.arena.items ++ take l.lit-index l.lits)
    × (vec_capacity l.arena ≡ vec_capacity l.fn.arena)
