use Rattle.clause_base.specs.ListsFields.{IsKept, linkage_of}
use Rattle.clause_base.specs.declared.watch_lists.LinkedLists.TheInside.{Inside}
use Rattle.clause_base.proofs.ListsChange.{laws-of, kept-empty}
use Rattle.clause_base.proofs.watch_lists.LinkedLists.clear.Goals as goal

module _ (c : goal.After-write_zeros) where
  abbrev b : Inside
  b = record { heads = c.write_zeros.new.numbers; nodes = c.self.inside.nodes }

  kept : IsKept b
  kept = record { linkage = (kept-empty (linkage_of b) c.write_zeros.ensures.zero).0; small = c.self.invariant.small }

pub invariant_of-self : goal.invariant_of-self
invariant_of-self c = kept c

pub returns-clause-empty : goal.returns-clause-empty
returns-clause-empty c = (kept-empty (linkage_of (b c)) c.write_zeros.ensures.zero).1

pub returns-clause-laws : goal.returns-clause-laws
returns-clause-laws c = laws-of (b c) (kept c)
