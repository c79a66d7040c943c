use Rattle.std.proofs.Common.{◌≡◌, List, take}
use Rattle.consequences.specs.declared.kept.Kept.{Kept}
use Rattle.consequences.specs.Indexed.{IsIndexed}
use Rattle.kept_supports.specs.Supports.{undecided}
use Rattle.kept_supports.proofs.supports.undecided_by.Given as goal

abbrev pub invariant-loop-lit : goal.invariant-loop-lit
invariant-loop-lit l = (ks : List Kept) → IsIndexed l.index.keys ks → l.some.items ≡ undecided ks (take l.lit-index
    l.lits)
