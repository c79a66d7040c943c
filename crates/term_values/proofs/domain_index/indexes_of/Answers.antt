use Rattle.std.proofs.Common.{take, sym, ap, ◌∙◌, subst, ◌++◌, ◌+◌, ◌∷◌, []}
use Rattle.std.proofs.lemmas.List.{take_more}
use Rattle.term_values.specs.DomainIndexes.{AreIndexesOf, IsIndexOf}
use Rattle.term_values.proofs.IndexLemmas.{each_more}
use Rattle.term_values.proofs.domain_index.indexes_of.Goals as goal

pub loop-domain-preserved : goal.loop-domain-preserved
loop-domain-preserved c =
    let domains = c.args.domains.now in
    let front = take c.loop-domain.domain-index domains in
    let item = c.domain-item.result in
    let more = take_more domains c.loop-domain.domain-index item c.loop-domain-test.true in
    let last = ap (λ d. front ++ d ∷ []) (sym c.domain-item.is) in
    let view = ap (λ d. front ++ d ∷ []) c.as_slice.ensures in
    let now = each_more IsIndexOf c.loop-domain.indexes.items front c.in_ok-of.field-0 c.as_slice.result.now
    c.loop-domain.invariant c.in_ok-of.ensures in
    subst (λ l. AreIndexesOf l (take (c.loop-domain.domain-index + 1) domains)) (sym c.in_ok-push.ensures.items)
    (subst (λ l. AreIndexesOf (c.loop-domain.indexes.items ++ c.in_ok-of.field-0 ∷ []) l) (view
    ∙ sym (more ∙ last)) now)
