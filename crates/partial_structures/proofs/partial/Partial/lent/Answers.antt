use Rattle.std.proofs.Common.{subst, sym}
use Rattle.partial_structures.specs.Elements.{labels_in, TellsElements}
use Rattle.row_tries.specs.Words.{words_in}
use Rattle.partial_structures.proofs.ElementLemmas.{tells_elements}
use Rattle.partial_structures.proofs.partial.Partial.lent.Goals as goal

pub invariant_of-result : goal.invariant_of-result
invariant_of-result c =
    let p = c.self.inside in
    let ws = words_in p.rows.words in
    let table = (labels_in p.elements) in
    record {
      hashed = subst (λ ds. TellsElements ws ds table) (sym c.as_slice-2.ensures)
          (tells_elements ws p.domains table c.self.invariant.words c.self.invariant.elements);
    }
