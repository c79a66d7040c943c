use Rattle.std.proofs.Common.{◌≡◌, ℕ, ◌<◌, Some, slice_get}
use Rattle.lit_core.specs.declared.literals.Lit.{Lit}
use Rattle.clause_base.specs.ShortState.{IsListed}
use Rattle.clause_base.specs.ShortFields.{Grows, lists_of}
use Rattle.clause_base.proofs.packing.add_clause.Given as goal

abbrev pub invariant-loop-place : goal.invariant-loop-place
invariant-loop-place l = Grows (lists_of l.fn.lists) (lists_of l.lists) l.id l.lits
    × ((k : ℕ) (m : Lit) → k < l.place → slice_get l.lits k ≡ Some m → IsListed (lists_of l.lists) m l.id)
