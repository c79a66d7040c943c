use Rattle.std.proofs.Common.{◌≡◌, sym, ◌∙◌, ap, length, List}
use Rattle.std.proofs.lemmas.Bool.{eqb-true}
use Rattle.kb_logic.specs.declared.elements.Elem.{Elem}
use Rattle.kb_logic.proofs.TupleLists.{empty_product}
use Rattle.kb_logic.proofs.tuples.has_empty_domain.Goals as goal

pub returns-then-is_empty : goal.returns-then-is_empty
returns-then-is_empty c = λ _.
    let none : length c.domain_in.result.now ≡ 0 = eqb-true (length c.domain_in.result.now) 0 (sym c.is_empty.ensures
    ∙ c.if-is_empty.true) in
    empty_product c.args.domains.now c.args.types.now c.loop-ty.ty-index c.loop-ty-test.true
    (ap (λ (d : List Elem). length d) (sym c.domain_in.ensures) ∙ none)
