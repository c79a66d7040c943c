use Rattle.std.proofs.Common.{◌≡◌, sym, ap, ◌∙◌, subst, true, rules}
use Rattle.std.proofs.lemmas.Option.{IfSome_then}
use Rattle.kb_logic.specs.Trees.{implication}
use Rattle.kb_logic.specs.Views.{formula_view}
use Rattle.known_guards.specs.Guards.{IsGuarded}
use Rattle.known_guards.proofs.FormulaViews.{formula_view-Implies}
use Rattle.known_guards.proofs.GuardSteps.{following, guarded-by, part-found, part-passed}
use Rattle.known_guards.proofs.guards.+guarding.Goals as goal

pub guard_among-returns-in-Some : goal.guard_among-returns-in-Some
guard_among-returns-in-Some t c =
    c.loop-formula.invariant c.in-Some.guard
    (part-found c.args.v c.args.formulas.now c.loop-formula.formula-index c.formula-item.result c.in-Some.guard
    c.loop-formula-test.true c.formula-item.is (rw c.in-Some.is at c.guard_in.ensures))

pub guard_among-loop-formula-preserved : goal.guard_among-loop-formula-preserved
guard_among-loop-formula-preserved t c =
    λ g later. c.loop-formula.invariant g
    (part-passed c.args.v c.args.formulas.now c.loop-formula.formula-index c.formula-item.result g
    c.loop-formula-test.true c.formula-item.is later)

pub guard_in-returns-in-None : goal.guard_in-returns-in-None
guard_in-returns-in-None t c =
    let l = formula_view c.in-Implies.left.value in
    let r = formula_view c.deref-in-None.result.now in
    let viewed : implication l r ≡ formula_view c.args.formula.now =
    ap (λ f. implication l (formula_view f)) c.deref-in-None.ensures
    ∙ sym (ap formula_view c.in-Implies.is ∙ formula_view-Implies c.in-Implies.left c.in-Implies.right) in
    let yes : c.args.v ≡ true = search rules in
    IfSome_then c.guard_in-in-None.result c.guard_in-in-None.ensures
    (λ g h. subst (λ f. IsGuarded c.args.v f g) viewed
    (subst (λ v. IsGuarded v (implication l r) g) (sym yes)
    (guarded-by true true (implication l r) r g (λ k e. following l r k e) h)))
