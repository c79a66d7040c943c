use Rattle.case_derivations.specs.Once.{IsOnceOf}
use Rattle.case_derivations.proofs.Assigning.{of-none, of-some}
use Rattle.case_derivations.proofs.Deriving.{refuted-behind}
use Rattle.case_derivations.proofs.Distinct.{once-within, once-admitted, cited}
use Rattle.case_derivations.proofs.derivations.derive.Goals as goal

pub walk-requires-clause-literals : goal.walk-requires-clause-literals
walk-requires-clause-literals c = rw (c.deref.ensures.value) (once-within c.args.lits.now c.in-Some.chosen.items
    (of-some _ _ c.in_ok-chosen.field-0 c.in-Some.chosen c.in-Some.is c.in_ok-chosen.ensures)
    c.args.checker.now.state.vars c.requires.literals)

pub walk-requires-clause-fine : goal.walk-requires-clause-fine
walk-requires-clause-fine c =
    let once : IsOnceOf c.args.lits.now c.in-Some.chosen.items =
    of-some _ _ c.in_ok-chosen.field-0 c.in-Some.chosen c.in-Some.is c.in_ok-chosen.ensures in
    rw (c.deref.ensures.value) once.fine

pub unreachable-requires : goal.unreachable-requires
unreachable-requires c =
    let once : IsOnceOf c.args.lits.now c.deref.result.now = rw (c.deref.ensures.value)
    (of-some _ _ c.in_ok-chosen.field-0 c.in-Some.chosen c.in-Some.is c.in_ok-chosen.ensures) in
    let admitted = of-none _ _ c.in_ok-number.field-0 c.in-None.is c.in_ok-number.ensures.bears in
    refuted-behind c.args.checker.now c.walk.new.checker c.args.text.now.items c.walk.new.text.items c.args.lits.now
    c.in_ok-number.ensures.adds c.requires.refuted admitted.0
    (once-admitted c.args.lits.now c.deref.result.now once c.walk.new.checker admitted.0 admitted.1)

pub returns-clause-cites : goal.returns-clause-cites
returns-clause-cites c =
    let once : IsOnceOf c.args.lits.now c.deref.result.now = rw (c.deref.ensures.value)
    (of-some _ _ c.in_ok-chosen.field-0 c.in-Some.chosen c.in-Some.is c.in_ok-chosen.ensures) in
    cited c.args.lits.now c.deref.result.now once c.walk.new.checker.state c.in-Some-2.number
    (of-some _ _ c.in_ok-number.field-0 c.in-Some-2.number c.in-Some-2.is c.in_ok-number.ensures.bears)
