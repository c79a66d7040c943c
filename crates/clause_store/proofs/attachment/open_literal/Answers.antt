use Rattle.std.proofs.Common.{◌≡◌, Some, false, All, sym, ap, ◌∙◌, take}
use Rattle.std.proofs.lemmas.List.{take_all}
use Rattle.std.proofs.lemmas.List.Elements.{All-more}
use Rattle.lit_core.specs.declared.literals.Lit.{Lit}
use Rattle.lit_core.specs.Literals.{value_in}
use Rattle.clause_store.proofs.attachment.open_literal.Goals as goal

pub loop-lit-preserved : goal.loop-lit-preserved
loop-lit-preserved c =
    let d : Lit = c.lit-item.result in
    All-more (λ m. value_in c.args.assignment.now m ≡ Some false) c.args.lits.now c.loop-lit.lit-index d
    c.loop-lit-test.true c.loop-lit.invariant (ap (value_in c.args.assignment.now) (sym c.lit-item.is
    ∙ sym c.lit-lit.ensures.value) ∙ sym c.value.ensures ∙ c.in-Some-false.is ∙ ap Some c.in-Some-false.field-0-test)

pub returns : goal.returns
returns c =
    let h : All (λ m. value_in c.args.assignment.now m ≡ Some false) (take c.loop-lit.lit-index c.args.lits.now) =
    c.loop-lit.invariant in
    rw (take_all c.loop-lit.lit-index c.args.lits.now c.loop-lit-test.false) at h
