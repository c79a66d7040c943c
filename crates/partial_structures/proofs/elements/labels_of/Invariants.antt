use Rattle.std.proofs.Common.{take}
use Rattle.partial_structures.specs.Elements.{AreLabelsOf}
use Rattle.row_tries.specs.Words.{words_in}
use Rattle.partial_structures.proofs.elements.labels_of.Given as goal

abbrev pub invariant-loop-elem : goal.invariant-loop-elem
invariant-loop-elem l = AreLabelsOf (words_in l.rows.words) (take l.elem-index l.elems) l.labels.keys
