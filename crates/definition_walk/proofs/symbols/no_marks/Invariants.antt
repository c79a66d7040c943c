use Rattle.std.proofs.Common.{◌≡◌, length, []}
use Rattle.definition_walk.specs.Marks.{HaveMarks}
use Rattle.definition_walk.proofs.symbols.no_marks.Given as goal

-- so many marks, none of them set
abbrev pub invariant-loop-mark : goal.invariant-loop-mark
invariant-loop-mark l = record {
  len : length l.marks.items ≡ l._mark;
  unset : HaveMarks (record { rules = [] }) l.marks.items;
}
