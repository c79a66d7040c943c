use Rattle.std.proofs.Common.{rules, map, refl}
use Rattle.lit_core.specs.Literals.{negated}
use Rattle.derivation_log.specs.declared.entries.Entry.TheVariants.{Sum}
use Rattle.case_derivations.proofs.Bearing.{sum-step, sum-written, bearing-adds, bearing-false}
use Rattle.case_derivations.proofs.adding.add_sum.Goals as goal

pub add-requires : goal.add-requires
add-requires c = rw (c.in_ok-clause.ensures) (sum-step c.args.checker.now c.args.inforce.now c.requires.literals
    c.requires.fine c.args.number c.requires.fails)

pub returns-clause-adds : goal.returns-clause-adds
returns-clause-adds c = bearing-adds c.args.checker.now c.add.new.checker c.args.inforce.now
    (Sum c.args.number (map negated c.args.inforce.now)) c.args.text.now.items c.add.new.text.items tt
    (sum-written c.args.checker.now c.args.inforce.now c.requires.literals c.requires.fine c.args.number (search rules)
    (search rules))
    refl
    (sum-step c.args.checker.now c.args.inforce.now c.requires.literals c.requires.fine c.args.number c.requires.fails)
    c.add.result (rw (← c.in_ok-clause.ensures) c.add.ensures.state) (rw (← c.in_ok-clause.ensures) c.add.ensures.text)

pub returns-clause-bears : goal.returns-clause-bears
returns-clause-bears c = bearing-false c.args.checker.now c.add.new.checker c.args.inforce.now
    (Sum c.args.number (map negated c.args.inforce.now)) refl c.add.result
    (rw (← c.in_ok-clause.ensures) c.add.ensures.state) c.add.ensures.last
