use Rattle.std.proofs.Common.{rules, ◌≡◌, false, take, sym}
use Rattle.std.proofs.lemmas.List.{take_all}
use Rattle.std.proofs.lemmas.List.Elements.{All-more, All-same}
use Rattle.lit_core.specs.Literals.{negated}
use Rattle.log_checker.specs.Sets.{has}
use Rattle.log_checker.proofs.Turning.{mk, no-opposites}
use Rattle.log_checker.proofs.marking.any_opposite.Goals as goal

pub loop-lit-preserved : goal.loop-lit-preserved
loop-lit-preserved c = All-more (λ m. has c.args.set.now (negated m) ≡ false) c.args.lits.now c.loop-lit.lit-index
    (mk 0 false) c.loop-lit-test.true c.loop-lit.invariant (search rules)

pub returns : goal.returns
returns c = (
  λ t. absurd (search rules),
  λ h. absurd (no-opposites c.args.set.now c.args.lits.now c.requires
      (All-same (λ m. has c.args.set.now (negated m) ≡ false) c.args.lits.now
      (take c.loop-lit.lit-index c.args.lits.now) (sym
      (take_all c.loop-lit.lit-index c.args.lits.now (search rules))) c.loop-lit.invariant) h),
)
