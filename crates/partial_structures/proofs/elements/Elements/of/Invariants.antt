use Rattle.std.proofs.Common.{map, take}
use Rattle.row_tries.specs.Words.{words_in}
use Rattle.partial_structures.proofs.ElementLemmas.{EachLabels}
use Rattle.partial_structures.proofs.elements.Elements.of.Given as goal

abbrev pub invariant-loop-domain : goal.invariant-loop-domain
invariant-loop-domain l = EachLabels (words_in l.rows.words) (take l.domain-index l.domains)
    (map (λ t. t.keys) l.tables.items)
