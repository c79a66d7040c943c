use Rattle.std.proofs.Common.{rules, sym, take}
use Rattle.std.proofs.lemmas.List.{take_all}
use Rattle.std.proofs.lemmas.List.Elements.{All-more, All-same}
use Rattle.derivation_log.specs.Texts.{IsHint}
use Rattle.derivation_log.proofs.reading.are_hints.Goals as goal

pub loop-hint-preserved : goal.loop-hint-preserved
loop-hint-preserved c =
    All-more IsHint c.args.hints.now c.loop-hint.hint-index 0 c.loop-hint-test.true c.loop-hint.invariant (search rules)

pub returns : goal.returns
returns c = (
  λ t. All-same IsHint c.args.hints.now (take c.loop-hint.hint-index c.args.hints.now)
      (sym (take_all c.loop-hint.hint-index c.args.hints.now (search rules))) c.loop-hint.invariant,
  λ h. search rules,
)
