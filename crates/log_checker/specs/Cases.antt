-- What a derivation by cases speaks of.
use Rattle.std.specs.Prelude.{◌≡◌, ℕ, ◌-◌, ◌≤◌, Bool, List, All, flat_map}
use Rattle.lit_core.specs.declared.literals.Lit.{Lit}
use Rattle.lit_core.specs.Truth.{IsSatisfied}
use Rattle.lit_core.specs.Refutation.{IsFalseUnder}
use Rattle.ground_core.specs.Meaning.{SumHolds, BoundHolds, MakesTrue}
use Rattle.ground_core.specs.GateClauses.{clauses_of}
use Rattle.ground_core.specs.Solving.{IsPrefix}
use Rattle.derivation_log.specs.declared.entries.Entry.{Entry}
use Rattle.derivation_log.specs.declared.entries.Entry.TheVariants as entry
use Rattle.derivation_log.specs.Lines.{entry_text}
use Rattle.derivation_log.specs.Steps.{CannotHold}
use Rattle.log_checker.specs.Growing.{Checking, GoesOn}
use Rattle.log_checker.specs.Refuting.{IsNamed}

-- the valuation satisfies all that a log may cite, and makes the literals true: the problem's clauses, its sums, and
-- the bounds that the log added
pub record Admits (c : Checking) (lits : List Lit) (v : ℕ → Bool) : Type 0 where
  pub clauses : All (IsSatisfied v) (clauses_of c.problem)
  pub sums : All (SumHolds v) c.problem.sums
  pub bounds : All (BoundHolds v c.problem.terms) c.state.bounds
  pub trues : MakesTrue v lits

-- nothing admits the literals
abbrev pub IsRefuted : Checking → List Lit → Type 0
IsRefuted c lits = (v : ℕ → Bool) → Admits c lits v → ⊥

-- the entry bears a clause that follows
abbrev pub BearsClause : Entry → Type 0
BearsClause (entry.Mark n) = ⊥
BearsClause (entry.Learnt lits hints) = Unit {0}
BearsClause (entry.Sum n lits) = Unit {0}
BearsClause (entry.Bound s t k) = ⊥
BearsClause (entry.Exclude s lits) = ⊥
BearsClause (entry.Inconsistent lits c) = ⊥
BearsClause (entry.Forced l lits c) = ⊥
BearsClause (entry.Least t k lits c) = ⊥

-- such entries were added, each a step: nothing else of the state changed, and earlier clauses keep their numbers
pub record Derives (old new : Checking) (entries : List Entry) : Type 0 where
  pub bearing : All BearsClause entries
  pub goes_on : GoesOn old (flat_map entry_text entries) new
  pub clauses : IsPrefix old.state.clauses new.state.clauses
  pub vars : new.state.vars ≡ old.state.vars
  pub bounds : new.state.bounds ≡ old.state.bounds
  pub line : new.state.line ≡ old.state.line
  pub claims : new.state.claims ≡ old.state.claims

-- the clause of this number is false under the literals
abbrev pub IsFalseAt : List (List Lit) → List Lit → ℕ → Type 0
IsFalseAt clauses inforce n = (c : List Lit) × IsNamed clauses n c × IsFalseUnder inforce c

-- no clause is
abbrev pub NoneIsFalse : List (List Lit) → List Lit → Type 0
NoneIsFalse clauses inforce = (n : ℕ) → IsFalseAt clauses inforce n → ⊥

-- the constraint of this number, from 1 on, cannot hold under the literals
abbrev pub FailsAt : Checking → List Lit → ℕ → Type 0
FailsAt c inforce n = (1 ≤ n) × CannotHold c.problem c.state inforce (n - 1)

-- no constraint fails
abbrev pub NoneFails : Checking → List Lit → Type 0
NoneFails c inforce = (n : ℕ) → FailsAt c inforce n → ⊥
