-- What comes of a turn.
use Rattle.std.specs.Prelude.{List}
use Rattle.lit_core.specs.declared.literals.Lit.{Lit}
use Rattle.log_checker.specs.Growing.{Checking}
use Rattle.log_checker.specs.Cases.{IsFalseAt}
use Rattle.case_derivations.specs.declared.open_cases.Case.{Case}
use Rattle.case_derivations.specs.declared.walking.Turn.{Turn}
use Rattle.case_derivations.specs.declared.walking.Turn.TheVariants.{On, Refuted, Admitted}
use Rattle.case_derivations.specs.OpenCases.{Stands}
use Rattle.case_derivations.specs.Looking.{IsAdmitted}

-- there are cases to go on with, or the given literals are refuted by a clause, or admitted
abbrev pub TurnsOut : Checking → List Lit → List Case → Turn → Type 0
TurnsOut c lits cases On = Stands c.state.vars c.state.clauses lits cases
TurnsOut c lits cases (Refuted n) = IsFalseAt c.state.clauses lits n
TurnsOut c lits cases Admitted = IsAdmitted c lits
