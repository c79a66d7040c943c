use Rattle.std.proofs.Common.{List, Contains, refl, sym, ◌∙◌, subst}
use Rattle.lit_core.specs.declared.literals.Lit.{Lit}
use Rattle.solving_judge.proofs.additions.ask.Goals as goal

pub solve-requires-clause-unretired : goal.solve-requires-clause-unretired
solve-requires-clause-unretired g c = λ l gone has. c.if-not-are_apart.ensures refl l
    (subst (λ (ls : List Lit). Contains ls l) (c.requires.marks.retired ∙ sym c.deref.ensures.value) gone) has
