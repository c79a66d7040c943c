use Rattle.std.proofs.Common.{◌≡◌, ◌++◌, take}
use Rattle.lit_core.proofs.clause_lists.add_lits.Given as goal

abbrev pub invariant-loop-lit : goal.invariant-loop-lit
invariant-loop-lit l = l.arena.items ≡ l.fn.arena.items ++ take l.lit-index l.lits
