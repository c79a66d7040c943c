use Rattle.std.proofs.Common.{◌≡◌, take}
use Rattle.ground_core.proofs.atom_tables.copied_list.Given as goal

-- the items so far are copied
abbrev pub invariant-loop-item : goal.invariant-loop-item
invariant-loop-item g l = l.list.items ≡ take l.item-index l.items
