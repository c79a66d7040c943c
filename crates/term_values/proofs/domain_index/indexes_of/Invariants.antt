use Rattle.std.proofs.Common.{take}
use Rattle.term_values.specs.DomainIndexes.{AreIndexesOf}
use Rattle.term_values.proofs.domain_index.indexes_of.Given as goal

abbrev pub invariant-loop-domain : goal.invariant-loop-domain
invariant-loop-domain l = AreIndexesOf l.indexes.items (take l.domain-index l.domains)
