use Rattle.std.proofs.Common.{◌∙◌, ◌+◌, ◌++◌, ◌∷◌, [], List, map, take, ap, sym, subst}
use Rattle.std.proofs.lemmas.List.{map-append, take_all, take_more}
use Rattle.kb_logic.specs.declared.elements.Elem.{Elem}
use Rattle.partial_structures.specs.Elements.{AreLabelsOf}
use Rattle.row_tries.specs.Words.{words_in}
use Rattle.row_tries.specs.declared.rows.Label.{Label}
use Rattle.partial_structures.proofs.ElementLemmas.{each_type, one_table_more, EachLabels}
use Rattle.partial_structures.proofs.elements.Elements.of.Goals as goal

pub loop-domain-preserved : goal.loop-domain-preserved
loop-domain-preserved c =
    let ws = words_in c.args.rows.now.words in
    let ds = c.args.domains.now in
    let i = c.loop-domain.domain-index in
    let d = c.domain-item.result in
    let old = c.loop-domain.tables.items in
    let more = one_table_more ws (take i ds) (map (λ t. t.keys) old) d c.in_ok-labels_of.field-0.keys
    c.loop-domain.invariant
    (subst (λ xs. AreLabelsOf ws xs c.in_ok-labels_of.field-0.keys) c.as_slice.ensures c.in_ok-labels_of.ensures) in
    subst (λ (ls : List (List Label)). EachLabels ws (take (i + 1) ds) ls)
    (sym (ap (map (λ t. t.keys)) c.in_ok-push.ensures.items
    ∙ map-append (λ t. t.keys) old (c.in_ok-labels_of.field-0 ∷ [])))
    (subst (λ (es : List (List Elem)). EachLabels ws es (map (λ t. t.keys) old ++ c.in_ok-labels_of.field-0.keys ∷ []))
    (sym (take_more ds i d c.loop-domain-test.true
    ∙ ap (λ x. take i ds ++ x ∷ []) (sym c.domain-item.is))) more)

pub returns : goal.returns
returns c =
    let ws = words_in c.args.rows.now.words in
    each_type ws c.args.domains.now (map (λ t. t.keys) c.loop-domain.tables.items)
    (subst (λ (es : List (List Elem)). EachLabels ws es (map (λ t. t.keys) c.loop-domain.tables.items))
    (take_all c.loop-domain.domain-index c.args.domains.now c.loop-domain-test.false) c.loop-domain.invariant)
