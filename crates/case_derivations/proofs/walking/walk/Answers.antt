use Rattle.std.proofs.Common.{◌∙◌, subst}
use Rattle.case_derivations.specs.Turning.{TurnsOut}
use Rattle.case_derivations.proofs.Deriving.{adds-both}
use Rattle.case_derivations.proofs.walking.walk.Goals as goal

pub take_turn-requires : goal.take_turn-requires
take_turn-requires c = c.loop-turn.invariant.2

pub loop-turn-preserved : goal.loop-turn-preserved
loop-turn-preserved c = (
  adds-both c.args.checker.now c.loop-turn.checker c.take_turn.new.checker c.args.text.now.items
      c.loop-turn.text.items c.take_turn.new.text.items c.loop-turn.invariant.0 c.in_ok-take_turn.ensures.adds,
  c.take_turn.ensures.problem ∙ c.loop-turn.invariant.1,
  subst (TurnsOut c.take_turn.new.checker c.args.lits.now c.take_turn.new.cases) c.in-On.is
      c.in_ok-take_turn.ensures.turns,
)

pub returns-in-Refuted-clause-adds : goal.returns-in-Refuted-clause-adds
returns-in-Refuted-clause-adds c = adds-both c.args.checker.now c.loop-turn.checker c.take_turn.new.checker
    c.args.text.now.items c.loop-turn.text.items c.take_turn.new.text.items c.loop-turn.invariant.0
    c.in_ok-take_turn.ensures.adds

pub returns-in-Admitted-clause-adds : goal.returns-in-Admitted-clause-adds
returns-in-Admitted-clause-adds c = adds-both c.args.checker.now c.loop-turn.checker c.take_turn.new.checker
    c.args.text.now.items c.loop-turn.text.items c.take_turn.new.text.items c.loop-turn.invariant.0
    c.in_ok-take_turn.ensures.adds
