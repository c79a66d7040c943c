use Rattle.std.proofs.Common.{take, arith, sym, ap, ◌∙◌, subst, ◌++◌, ◌∷◌, []}
use Rattle.std.proofs.lemmas.List.{take_more, length-take-le}
use Rattle.kb_logic.specs.declared.elements.Elem.{Elem}
use Rattle.term_values.specs.DomainIndexes.{IsIndexOf}
use Rattle.term_values.proofs.domain_index.DomainIndex.of.Goals as goal

pub loop-place-preserved : goal.loop-place-preserved
loop-place-preserved c =
    let domain = c.args.domain.now in
    let front = take c.loop-place.place domain in
    let item : Elem = c.index-domain-place.result in
    let size = length-take-le c.loop-place.place domain (omega arith) in
    let all = take_more domain c.loop-place.place item (omega arith) in
    let last = ap (λ x. front ++ x ∷ []) (sym c.index-domain-place.is) in
    let value = c.elem_value.ensures in
    subst (λ l. IsIndexOf c.add.new.self l) (sym (all ∙ last))
    (c.in_ok-add.ensures item front (sym value) c.loop-place.invariant (sym size))
