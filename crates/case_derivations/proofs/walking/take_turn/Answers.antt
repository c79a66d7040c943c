use Rattle.std.proofs.Common.{subst}
use Rattle.case_derivations.specs.Looking.{Sees, IsUnassigned}
use Rattle.case_derivations.specs.OpenCases.{in_force}
use Rattle.case_derivations.proofs.Deriving.{adds-both}
use Rattle.case_derivations.proofs.Standing.{lits-of-cases, cases-fine, admitted-in-cases, stands-behind, case-begins}
use Rattle.case_derivations.proofs.walking.take_turn.Goals as goal

pub look-requires-clause-literals : goal.look-requires-clause-literals
look-requires-clause-literals c = rw (c.deref.ensures.value, c.in_ok-inforce.ensures)
    (lits-of-cases c.args.checker.now.state.vars c.args.checker.now.state.clauses c.args.lits.now c.args.cases.now
    c.requires)

pub look-requires-clause-fine : goal.look-requires-clause-fine
look-requires-clause-fine c = rw (c.deref.ensures.value, c.in_ok-inforce.ensures)
    (cases-fine c.args.checker.now.state.vars c.args.checker.now.state.clauses c.args.lits.now c.args.cases.now
    c.requires)

pub go_back-requires-clause-stands : goal.go_back-requires-clause-stands
go_back-requires-clause-stands c = stands-behind c.args.checker.now c.look.new.checker c.args.text.now.items
    c.look.new.text.items c.args.lits.now c.args.cases.now c.in_ok-number.ensures.adds c.requires

pub go_back-requires-clause-falsity : goal.go_back-requires-clause-falsity
go_back-requires-clause-falsity c = rw (← c.in_ok-inforce.ensures, ← c.deref.ensures.value)
    (subst (Sees c.look.new.checker c.deref.result.now) c.in-FalseClause.is c.in_ok-number.ensures.sees)

pub returns-in-OpenLiteral-clause-turns : goal.returns-in-OpenLiteral-clause-turns
returns-in-OpenLiteral-clause-turns c =
    let seen : IsUnassigned c.look.new.checker.state.vars (in_force c.args.lits.now c.args.cases.now)
    c.in-OpenLiteral.lit =
    rw (← c.in_ok-inforce.ensures, ← c.deref.ensures.value)
    (subst (Sees c.look.new.checker c.deref.result.now) c.in-OpenLiteral.is c.in_ok-number.ensures.sees) in
    rw (c.in_ok-push-in-OpenLiteral.ensures) (case-begins c.look.new.checker.state.vars
    c.look.new.checker.state.clauses c.args.lits.now c.args.cases.now c.in-OpenLiteral.lit seen.0 seen.1
    (stands-behind c.args.checker.now c.look.new.checker c.args.text.now.items c.look.new.text.items c.args.lits.now
    c.args.cases.now c.in_ok-number.ensures.adds c.requires))

pub returns-in-Some-clause-adds : goal.returns-in-Some-clause-adds
returns-in-Some-clause-adds c = adds-both c.args.checker.now c.look.new.checker c.go_back.new.checker
    c.args.text.now.items c.look.new.text.items c.go_back.new.text.items c.in_ok-number.ensures.adds
    c.in_ok-found-in-FalseClause.ensures.adds

pub returns-in-FalseClause-clause-adds : goal.returns-in-FalseClause-clause-adds
returns-in-FalseClause-clause-adds c = adds-both c.args.checker.now c.look.new.checker c.go_back.new.checker
    c.args.text.now.items c.look.new.text.items c.go_back.new.text.items c.in_ok-number.ensures.adds
    c.in_ok-found-in-FalseClause.ensures.adds

pub returns-clause-turns : goal.returns-clause-turns
returns-clause-turns c = admitted-in-cases c.look.new.checker c.args.lits.now c.args.cases.now
    (rw (← c.in_ok-inforce.ensures, ← c.deref.ensures.value)
    (subst (Sees c.look.new.checker c.deref.result.now) c.in-NothingFalse.is c.in_ok-number.ensures.sees))
