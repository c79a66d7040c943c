use Rattle.std.proofs.Common.{◌++◌, ◌∷◌, [], sym, ◌∙◌, subst}
use Rattle.lit_core.specs.declared.literals.Lit.{Lit}
use Rattle.derivation_log.specs.Steps.{Cites}
use Rattle.log_checker.specs.Cases.{IsRefuted}
use Rattle.derived_claims.proofs.Stating.{bound-refutes, least-stated, least-step}
use Rattle.derived_claims.proofs.claims.of_least.Goals as goal

pub derive_with-requires-clause-refuted : goal.derive_with-requires-clause-refuted
derive_with-requires-clause-refuted c =
    subst (λ (l : Lit). IsRefuted c.put.new.checker (c.args.lits.now.items ++ l ∷ [])) (sym c.selected.ensures)
    (bound-refutes c.args.checker.now c.put.new.checker c.args.lits.now.items c.args.term c.in_ok-number.number
    c.in_ok-selector.selector c.args.value c.in_ok-number.ensures.next c.in_ok-selector.ensures.next c.requires.atoms
    c.requires.least c.requires.lower c.in_ok-put.ensures.adds)

pub put-requires-2 : goal.put-requires-2
put-requires-2 c =
    least-step c.args.checker.now c.put.new.checker c.args.lits.now.items c.args.term c.in_ok-number.number
    c.in_ok-selector.selector c.args.value c.in_ok-number.ensures.next c.in_ok-selector.ensures.next c.requires.atoms
    c.requires.least c.requires.lower c.in_ok-put.ensures.adds c.derive_with.new.checker c.new-text.result.items
    c.put.new.text.items c.derive_with.new.text.items c.in_ok-clause.ensures.derives c.in_ok-list_of.field-0
    c.in_ok-clause.clause
    (subst (λ (l : Lit). Cites c.derive_with.new.checker.state (c.args.lits.now.items ++ l ∷ []) (λ m. ⊥)
    c.in_ok-clause.clause) c.selected.ensures c.in_ok-clause.ensures.cites)
    (c.in_ok-list_of.ensures ∙ c.as_slice.ensures.value ∙ c.in_ok-clause.ensures.kept)

pub returns : goal.returns
returns c =
    least-stated c.args.checker.now c.put.new.checker c.args.lits.now.items c.args.term c.in_ok-number.number
    c.in_ok-selector.selector c.args.value c.in_ok-number.ensures.next c.in_ok-selector.ensures.next c.requires.atoms
    c.requires.least c.requires.lower c.in_ok-put.ensures.adds c.derive_with.new.checker c.new-text.result.items
    c.put.new.text.items c.derive_with.new.text.items c.in_ok-clause.ensures.derives c.in_ok-list_of.field-0
    c.in_ok-clause.clause
    (subst (λ (l : Lit). Cites c.derive_with.new.checker.state (c.args.lits.now.items ++ l ∷ []) (λ m. ⊥)
    c.in_ok-clause.clause) c.selected.ensures c.in_ok-clause.ensures.cites)
    (c.in_ok-list_of.ensures ∙ c.as_slice.ensures.value ∙ c.in_ok-clause.ensures.kept)
    c.put-2.new.checker c.put-2.new.text.items c.new-text.ensures.items c.in_ok-selector.ensures.number
    c.in_ok-number.ensures.written c.in_ok-clause.ensures.number c.in_ok-put.ensures.text c.in_ok-put-2.ensures.adds
    c.in_ok-put-2.ensures.text
