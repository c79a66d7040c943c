use Rattle.std.proofs.Common.{◌≡◌, ℕ, length, []}
use Rattle.definition_walk.specs.Lists.{lists_of, HaveBodies}
use Rattle.definition_walk.proofs.bodies.empty_lists.Given as goal

-- so many lists, all empty
abbrev pub invariant-loop-list : goal.invariant-loop-list
invariant-loop-list l = record {
  len : length l.lists.items ≡ l._list;
  empty : (first : ℕ) → HaveBodies [] first (lists_of l.lists);
}
