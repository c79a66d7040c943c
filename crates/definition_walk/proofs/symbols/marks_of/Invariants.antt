use Rattle.std.proofs.Common.{◌≡◌, length, take}
use Rattle.definition_walk.specs.Marks.{HaveMarks}
use Rattle.definition_walk.proofs.MarkFacts.{rules_defined}
use Rattle.definition_walk.proofs.symbols.marks_of.Given as goal

-- the marks of the rules so far
abbrev pub invariant-loop-rule : goal.invariant-loop-rule
invariant-loop-rule l = record {
  len : length l.marks.items ≡ l.count;
  made : HaveMarks (rules_defined (take l.rule-index l.rules)) l.marks.items;
}
