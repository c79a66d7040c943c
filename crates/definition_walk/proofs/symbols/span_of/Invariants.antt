use Rattle.definition_walk.specs.Marks.{Spans}
use Rattle.definition_walk.proofs.symbols.span_of.Given as goal

-- the atoms of the marked symbols so far
abbrev pub invariant-loop-symbol : goal.invariant-loop-symbol
invariant-loop-symbol l = Spans l.base l.marks l.symbol l.span
