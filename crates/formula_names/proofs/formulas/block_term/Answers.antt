use Rattle.formula_names.proofs.StepLaws.{on_ok_from}
use Rattle.formula_names.proofs.formulas.block_term.Goals as goal

pub returns-clause-noted : goal.returns-clause-noted
returns-clause-noted c =
    let begun = c.begin-walk.ensures in
    on_ok_from c.term-named.result _ _ c.term-named.ensures
    (λ made step. rw (begun.known, begun.scope, begun.noted, c.new-defined.ensures) at step.noted)
