use Rattle.std.proofs.Common.{rules, ◌≡◌, ◌∷◌, [], ◌++◌, map, refl, subst, OnOk}
use Rattle.derivation_log.specs.Lines.{entry_text}
use Rattle.lit_core.specs.Literals.{negated}
use Rattle.derivation_log.specs.declared.entries.Entry.TheVariants.{Learnt}
use Rattle.case_derivations.proofs.Bearing.{resolvent-step, resolvent-written, bearing-adds, bearing-false}
use Rattle.case_derivations.proofs.adding.add_resolvent.Goals as goal

pub add-requires : goal.add-requires
add-requires c = rw (c.in_ok-clause.ensures, c.in_ok-hints.ensures) (resolvent-step c.args.checker.now
    c.args.inforce.now c.requires.literals c.requires.fine c.args.case.lit c.args.case.other c.args.number
    c.requires.case c.requires.first c.requires.second)

pub returns-clause-adds : goal.returns-clause-adds
returns-clause-adds c = bearing-adds c.args.checker.now c.add.new.checker c.args.inforce.now
    (Learnt (map negated c.args.inforce.now) (c.args.case.other ∷ c.args.number ∷ [])) c.args.text.now.items
    c.add.new.text.items tt
    (resolvent-written c.args.checker.now c.args.inforce.now c.requires.literals c.requires.fine c.args.case.lit
    c.args.case.other c.args.number c.requires.case c.requires.first c.requires.second (search rules) (search rules)
    (search rules))
    refl
    (resolvent-step c.args.checker.now c.args.inforce.now c.requires.literals c.requires.fine c.args.case.lit
    c.args.case.other c.args.number c.requires.case c.requires.first c.requires.second)
    c.add.result (rw (← c.in_ok-clause.ensures) c.add.ensures.state)
    (subst (λ ns. OnOk c.add.result (c.add.new.text.items ≡ c.args.text.now.items
    ++ entry_text (Learnt (map negated c.args.inforce.now) ns))) c.in_ok-hints.ensures
    (subst (λ ds. OnOk c.add.result (c.add.new.text.items ≡ c.args.text.now.items
    ++ entry_text (Learnt ds c.in_ok-hints.hints))) c.in_ok-clause.ensures c.add.ensures.text))

pub returns-clause-bears : goal.returns-clause-bears
returns-clause-bears c = bearing-false c.args.checker.now c.add.new.checker c.args.inforce.now
    (Learnt (map negated c.args.inforce.now) (c.args.case.other ∷ c.args.number ∷ [])) refl c.add.result
    (rw (← c.in_ok-clause.ensures) c.add.ensures.state) c.add.ensures.last
