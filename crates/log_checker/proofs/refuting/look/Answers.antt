use Rattle.std.proofs.Common.{rules, ◌≡◌, ◌∙◌, ◌+◌, sym, subst, Some, take}
use Rattle.lit_core.specs.declared.literals.Lit.{Lit}
use Rattle.log_checker.specs.Refuting.{IsOpen}
use Rattle.log_checker.proofs.Hints.{more-false, more-open, stop-true, stop-two, end-false, end-one}
use Rattle.log_checker.proofs.refuting.look.Goals as goal
use Rattle.log_checker.proofs.refuting.look.Goals.{then-not-has+else-has+in-Some+else-not-same}
use Rattle.log_checker.proofs.refuting.look.Goals.{then-not-has+else-has+in_default, else-not-has}

pub returns-then-has : goal.returns-then-has
returns-then-has c =
    λ ls h. stop-true c.args.set.now ls h c.args.clause.now c.loop-packed.packed-index _ c.lit-lit.result
    c.loop-packed-test.true (sym c.packed-item.is ∙ sym c.lit-lit.ensures.value) (search rules) (search rules)

pub returns-then-not-same : goal.returns-then-not-same
returns-then-not-same c =
    λ ls h. stop-two c.args.set.now ls h c.args.clause.now c.loop-packed.packed-index _ c.lit-lit.result
    c.loop-packed-test.true (sym c.packed-item.is ∙ sym c.lit-lit.ensures.value) c.in-Some.other (search rules)
    (search rules) (λ e. absurd (search rules)) (subst
    (λ o. IsOpen ls (take c.loop-packed.packed-index c.args.clause.now) o) c.in-Some.is (c.loop-packed.invariant ls h))

pub loop-packed-preserved : goal.loop-packed-preserved
loop-packed-preserved c = λ ls h.
    let i = c.loop-packed.packed-index in
    let clause = c.args.clause.now in
    let lit : Lit = c.lit-lit.result in
    elim c.if-not-has.branch [
      | then-not-has+else-has+in-Some+else-not-same w ↦ subst (λ o. IsOpen ls (take (i + 1) clause) o) (sym w.open-is)
          (more-open c.args.set.now ls h clause i _ lit c.loop-packed-test.true
          (sym c.packed-item.is ∙ sym c.lit-lit.ensures.value) c.loop-packed.open (search rules) (search rules)
          (λ l e. let a : w.in-Some.other ≡ lit = search rules in let b : Some l ≡ Some w.in-Some.other =
          sym e ∙ w.in-Some.is in cc) (c.loop-packed.invariant ls h))
      | then-not-has+else-has+in_default w ↦ subst (λ o. IsOpen ls (take (i + 1) clause) o) (sym w.open-is)
          (more-open c.args.set.now ls h clause i _ lit c.loop-packed-test.true
          (sym c.packed-item.is ∙ sym c.lit-lit.ensures.value) c.loop-packed.open (search rules) (search rules)
          (λ l e. absurd (search rules)) (c.loop-packed.invariant ls h))
      | else-not-has w ↦ subst (λ o. IsOpen ls (take (i + 1) clause) o) (sym w.open-is)
          (more-false c.args.set.now ls h clause i _ lit c.loop-packed-test.true
          (sym c.packed-item.is ∙ sym c.lit-lit.ensures.value) c.loop-packed.open (search rules)
          (c.loop-packed.invariant ls h))
    ]

pub returns-in-Some-open : goal.returns-in-Some-open
returns-in-Some-open c =
    λ ls h. end-one c.args.set.now ls h c.args.clause.now c.loop-packed.packed-index c.in-Some-open.lit (search rules)
    (subst (λ o. IsOpen ls (take c.loop-packed.packed-index c.args.clause.now) o) c.in-Some-open.is
    (c.loop-packed.invariant ls h))

pub returns-in-None : goal.returns-in-None
returns-in-None c = λ ls h. end-false c.args.set.now ls h c.args.clause.now c.loop-packed.packed-index (search rules)
    (subst (λ o. IsOpen ls (take c.loop-packed.packed-index c.args.clause.now) o) c.in-None.is
    (c.loop-packed.invariant ls h))
