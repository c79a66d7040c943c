use Rattle.std.proofs.Common.{rules, ◌≡◌, None, Some, true, false, sym, ◌∙◌, subst}
use Rattle.lit_core.specs.declared.literals.Lit.{Lit}
use Rattle.lit_core.specs.Literals.{value_in}
use Rattle.ground_core.specs.Intervals.{contradicts, IsOpenAt}
use Rattle.aggregate_propagators.specs.Implied.{assigned, under, Decides}
use Rattle.aggregate_propagators.specs.Thresholds.{constraint_of}
use Rattle.aggregate_propagators.proofs.Deciding.{decided-other, open-here}
use Rattle.aggregate_propagators.proofs.trials.tried.Goals as goal

pub returns-then-contradicted-2-clause-some : goal.returns-then-contradicted-2-clause-some
returns-then-contradicted-2-clause-some c =
    let a = assigned c.args.values.now in
    let con = constraint_of c.args.c c.args.parts.now in
    let none : value_in c.args.values.now c.args.lit ≡ None = search rules in
    subst (λ (l : Lit). Decides a con l × (IsOpenAt a con c.args.lit → ⊥)) (sym c.negated-then-contradicted-2.ensures)
    (decided-other a con c.args.lit none
    (subst (λ (l : Lit). contradicts (under a (Some l)) con ≡ true) c.negated.ensures
    (sym c.contradicted-2.ensures ∙ c.if-contradicted-2.true)))

pub returns-clause-none : goal.returns-clause-none
returns-clause-none c =
    let a = assigned c.args.values.now in
    let con = constraint_of c.args.c c.args.parts.now in
    open-here a con c.args.lit (sym c.contradicted.ensures ∙ c.if-contradicted.false)
    (subst (λ (l : Lit). contradicts (under a (Some l)) con ≡ false) c.negated.ensures
    (sym c.contradicted-2.ensures ∙ c.if-contradicted-2.false))
