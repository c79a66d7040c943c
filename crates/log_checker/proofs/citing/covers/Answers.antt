use Rattle.std.proofs.Common.{rules, ◌∙◌, sym, inl, inr}
use Rattle.lit_core.specs.declared.literals.Lit.{Lit}
use Rattle.lit_core.specs.Literals.{negated}
use Rattle.log_checker.proofs.Covering.{Covered, covered-more, covered-all}
use Rattle.log_checker.proofs.citing.covers.Goals as goal
use Rattle.log_checker.proofs.citing.covers.Goals.{else-not-has-via-then-not-has+else-not-is_other}
use Rattle.log_checker.proofs.citing.covers.Goals.{else-not-has-via-else-not-has}

pub loop-packed-preserved : goal.loop-packed-preserved
loop-packed-preserved c = λ lits h.
    let lit : Lit = c.lit-lit.result in
    let covered : Covered lits c.args.bounds.now c.args.other lit = elim c.else-not-has.branch [
      | else-not-has-via-then-not-has+else-not-is_other w ↦ inr (search rules)
      | else-not-has-via-else-not-has w ↦ inl (h.only (negated lit) (search rules))
    ] in
    covered-more lits c.args.bounds.now c.args.other c.args.clause.now c.loop-packed.packed-index _ lit
    c.loop-packed-test.true (sym c.packed-item.is ∙ sym c.lit-lit.ensures.value) covered
    (c.loop-packed.invariant lits h)

pub returns : goal.returns
returns c =
    λ lits h. (
      λ t. covered-all lits c.args.bounds.now c.args.other c.args.clause.now c.loop-packed.packed-index
          (search rules) (c.loop-packed.invariant lits h),
      λ a. search rules,
    )
