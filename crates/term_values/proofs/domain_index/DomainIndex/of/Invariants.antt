use Rattle.std.proofs.Common.{take}
use Rattle.term_values.specs.DomainIndexes.{IsIndexOf}
use Rattle.term_values.proofs.domain_index.DomainIndex.of.Given as goal

abbrev pub invariant-loop-place : goal.invariant-loop-place
invariant-loop-place l = IsIndexOf l.index (take l.place l.domain)
