-- How a case ends.
use Rattle.std.specs.Prelude.{ℕ, Bool, true, false, List, Option, None, Some, Contains}
use Rattle.lit_core.specs.declared.literals.Lit.{Lit}
use Rattle.log_checker.specs.Refuting.{IsNamed}
use Rattle.log_checker.specs.Cases.{IsFalseAt}
use Rattle.case_derivations.specs.OpenCases.{IsShut}

-- whether the clause of this number, which is there, has the literal
abbrev pub HasLit : List (List Lit) → ℕ → Lit → Bool → Type 0
HasLit clauses n l true = (c : List Lit) → IsNamed clauses n c → Contains c l
HasLit clauses n l false = (c : List Lit) → IsNamed clauses n c → Contains c l → ⊥

-- a clause is false without the case's literal, or the clause that is false in the case has its negation
abbrev pub Closes : List (List Lit) → List Lit → Lit → ℕ → Option ℕ → Type 0
Closes clauses inforce l n (Some m) = IsFalseAt clauses inforce m
Closes clauses inforce l n None = IsShut clauses inforce l n
