-- What is seen where literals are in force.
use Rattle.std.specs.Prelude.{ℕ, ◌≤◌, Bool, List, Contains, ◌⊎◌}
use Rattle.lit_core.specs.declared.literals.Lit.{Lit}
use Rattle.lit_core.specs.Literals.{negated}
use Rattle.lit_core.specs.Refutation.{IsOpenUnder}
use Rattle.ground_core.specs.Problems.{IsLitOf}
use Rattle.derivation_log.specs.Steps.{literal}
use Rattle.log_checker.specs.Growing.{Checking}
use Rattle.log_checker.specs.Cases.{Admits, IsFalseAt}
use Rattle.case_derivations.specs.declared.looking.Seen.{Seen}
use Rattle.case_derivations.specs.declared.looking.Seen.TheVariants.{FalseClause, OpenLiteral, NothingFalse}

-- the first variables are all assigned
abbrev pub AreAssigned : ℕ → List Lit → Type 0
AreAssigned vars inforce = (n : ℕ) → 1 ≤ n → n ≤ vars
    → Contains inforce (literal n) ⊎ Contains inforce (negated (literal n))

-- the literal is of one of the first variables, which is not assigned
abbrev pub IsUnassigned : ℕ → List Lit → Lit → Type 0
IsUnassigned vars inforce l = IsLitOf vars l × IsOpenUnder inforce l

-- something admits the literals
abbrev pub IsAdmitted : Checking → List Lit → Type 0
IsAdmitted c lits = (v : ℕ → Bool) × Admits c lits v

-- a clause is false, a variable is not assigned, or the literals are admitted
abbrev pub Sees : Checking → List Lit → Seen → Type 0
Sees c inforce (FalseClause n) = IsFalseAt c.state.clauses inforce n
Sees c inforce (OpenLiteral l) = IsUnassigned c.state.vars inforce l
Sees c inforce NothingFalse = IsAdmitted c inforce
