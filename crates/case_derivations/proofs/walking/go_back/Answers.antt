use Rattle.std.proofs.Common.{rules, ◌∙◌, ◌∷◌, subst}
use Rattle.log_checker.specs.Cases.{IsFalseAt}
use Rattle.case_derivations.specs.Closing.{Closes}
use Rattle.case_derivations.specs.OpenCases.{in_force, IsShut, Stands}
use Rattle.case_derivations.proofs.Assigning.{of-none}
use Rattle.case_derivations.proofs.Deriving.{adds-both}
use Rattle.case_derivations.proofs.Standing.{lits-of-cases, cases-fine, stands-behind, case-turns}
use Rattle.case_derivations.proofs.walking.go_back.Goals as goal

pub close-requires-clause-literals : goal.close-requires-clause-literals
close-requires-clause-literals c =
    let st = c.loop-case.checker.state in
    let stands = subst (Stands st.vars st.clauses c.args.lits.now) c.in-Some.ensures c.loop-case.invariant.2 in
    rw (c.deref.ensures.value, c.in_ok-inforce.ensures)
    (lits-of-cases st.vars st.clauses c.args.lits.now c.pop.new.self stands.3)

pub close-requires-clause-fine : goal.close-requires-clause-fine
close-requires-clause-fine c =
    let st = c.loop-case.checker.state in
    let stands = subst (Stands st.vars st.clauses c.args.lits.now) c.in-Some.ensures c.loop-case.invariant.2 in
    rw (c.deref.ensures.value, c.in_ok-inforce.ensures)
    (cases-fine st.vars st.clauses c.args.lits.now c.pop.new.self stands.3)

pub close-requires-clause-falsity : goal.close-requires-clause-falsity
close-requires-clause-falsity c = rw (c.deref.ensures.value, c.in_ok-inforce.ensures)
    (subst (λ cs. IsFalseAt c.loop-case.checker.state.clauses (in_force c.args.lits.now cs) c.loop-case.number)
    c.in-Some.ensures c.loop-case.invariant.3)

pub returns-in-None-clause-adds : goal.returns-in-None-clause-adds
returns-in-None-clause-adds c = adds-both c.args.checker.now c.loop-case.checker c.close.new.checker
    c.args.text.now.items c.loop-case.text.items c.close.new.text.items c.loop-case.invariant.0
    c.in_ok-next.ensures.adds

pub returns-in-None-clause-stands : goal.returns-in-None-clause-stands
returns-in-None-clause-stands c =
    let st = c.loop-case.checker.state in
    let new = c.close.new.checker.state in
    let stands = stands-behind c.loop-case.checker c.close.new.checker c.loop-case.text.items c.close.new.text.items
    c.args.lits.now (c.in-Some.case ∷ c.pop.new.self) c.in_ok-next.ensures.adds
    (subst (Stands st.vars st.clauses c.args.lits.now) c.in-Some.ensures c.loop-case.invariant.2) in
    let shut : IsShut new.clauses (in_force c.args.lits.now c.pop.new.self) c.in-Some.case.lit c.loop-case.number =
    rw (← c.in_ok-inforce.ensures, ← c.deref.ensures.value)
    (subst (Closes new.clauses c.deref.result.now c.in-Some.case.lit c.loop-case.number) c.in-None.is
    c.in_ok-next.ensures.closes) in
    rw (c.in_ok-push-in-None.ensures, c.negated.ensures)
    (case-turns new.vars new.clauses c.args.lits.now c.pop.new.self c.in-Some.case.lit c.loop-case.number stands.0
    stands.1 shut stands.3)

pub loop-case-preserved : goal.loop-case-preserved
loop-case-preserved c =
    let st = c.loop-case.checker.state in
    let stands = stands-behind c.loop-case.checker c.close.new.checker c.loop-case.text.items c.close.new.text.items
    c.args.lits.now (c.in-Some.case ∷ c.pop.new.self) c.in_ok-next.ensures.adds
    (subst (Stands st.vars st.clauses c.args.lits.now) c.in-Some.ensures c.loop-case.invariant.2) in (
      adds-both c.args.checker.now c.loop-case.checker c.close.new.checker c.args.text.now.items
          c.loop-case.text.items c.close.new.text.items c.loop-case.invariant.0 c.in_ok-next.ensures.adds,
      c.close.ensures.problem ∙ c.loop-case.invariant.1,
      stands.3,
      rw (← c.in_ok-inforce.ensures, ← c.deref.ensures.value)
          (subst (Closes c.close.new.checker.state.clauses c.deref.result.now c.in-Some.case.lit c.loop-case.number)
          c.in-Some-2.is c.in_ok-next.ensures.closes),
    )

pub returns-clause-stands : goal.returns-clause-stands
returns-clause-stands c =
    subst (λ cs. IsFalseAt c.loop-case.checker.state.clauses (in_force c.args.lits.now cs) c.loop-case.number)
    (of-none _ _ c.pop.result (search rules) c.pop.ensures) c.loop-case.invariant.3
