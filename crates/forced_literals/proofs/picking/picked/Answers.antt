use Rattle.std.proofs.Common.{◌+◌, List, take, arith, subst, sym}
use Rattle.std.proofs.lemmas.List.{take_all}
use Rattle.kb_logic.specs.declared.structures.Literal.{Literal}
use Rattle.lit_core.specs.declared.literals.Lit.{Lit}
use Rattle.forced_literals.specs.Picking.{ArePicked}
use Rattle.forced_literals.proofs.PickingFacts.{next-skip, next-more}
use Rattle.forced_literals.proofs.picking.picked.Goals as goal

pub loop-lit-preserved-then-has : goal.loop-lit-preserved-then-has
loop-lit-preserved-then-has c = λ chosen forced h.
    next-skip c.args.lits.now c.loop-lit.lit-index _ c.loop-lit-test.true c.args.numbers.now chosen forced
    c.loop-lit.list (c.loop-lit.invariant chosen forced h) (c.if-has.ensures chosen forced h)

pub loop-lit-preserved : goal.loop-lit-preserved
loop-lit-preserved c = λ chosen forced h.
    subst (λ (ls : List Literal). ArePicked c.args.numbers.now chosen forced
    (take (c.loop-lit.lit-index + 1) c.args.lits.now) ls) (sym c.in_ok-push.ensures.ok)
    (next-more c.args.lits.now c.loop-lit.lit-index _ c.loop-lit-test.true c.args.numbers.now chosen forced
    c.loop-lit.list (c.loop-lit.invariant chosen forced h) (c.if-has.ensures chosen forced h)
    c.in_ok-literal_of.field-0 c.in_ok-literal_of.ensures.0)

pub returns : goal.returns
returns c = λ chosen forced h.
    subst (λ (ls : List Lit). ArePicked c.args.numbers.now chosen forced ls c.loop-lit.list)
    (take_all c.loop-lit.lit-index c.args.lits.now (omega (arith, c.loop-lit-test.false)))
    (c.loop-lit.invariant chosen forced h)
