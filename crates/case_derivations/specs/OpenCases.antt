-- Cases that are open, one within the other; the innermost one comes first.
use Rattle.std.specs.Prelude.{◌≡◌, ℕ, List, [], ◌∷◌, ◌++◌, Contains, ◌⊎◌}
use Rattle.lit_core.specs.declared.literals.Lit.{Lit}
use Rattle.lit_core.specs.Literals.{negated}
use Rattle.lit_core.specs.Refutation.{IsFalseUnder, IsOpenUnder}
use Rattle.ground_core.specs.Problems.{IsLitOf, AreLitsOf}
use Rattle.derivation_log.specs.Steps.{HasNoOpposites}
use Rattle.log_checker.specs.Refuting.{IsNamed}
use Rattle.case_derivations.specs.declared.open_cases.Case.{Case}

-- the literals that were given, then those of the cases from the outermost one on
abbrev pub in_force : List Lit → List Case → List Lit
in_force lits [] = lits
in_force lits (c ∷ cs) = in_force lits cs ++ c.lit ∷ []

-- the clause of this number is false under the literals, of which it has this negated
pub record IsShut (clauses : List (List Lit)) (inforce : List Lit) (l : Lit) (n : ℕ) : Type 0 where
  pub clause : List Lit
  pub named : IsNamed clauses n clause
  pub false_under : IsFalseUnder (inforce ++ l ∷ []) clause
  pub member : Contains clause (negated l)

-- the other case is to come, or a clause is false in it
abbrev pub IsBacked : List (List Lit) → List Lit → Case → Type 0
IsBacked clauses inforce c = (c.other ≡ 0) ⊎ IsShut clauses inforce (negated c.lit) c.other

-- each case is of a variable that was open before it
abbrev pub Stands : ℕ → List (List Lit) → List Lit → List Case → Type 0
Stands vars clauses lits [] = AreLitsOf vars lits × HasNoOpposites lits
Stands vars clauses lits (c ∷ cs) = IsLitOf vars c.lit × IsOpenUnder (in_force lits cs) c.lit
    × IsBacked clauses (in_force lits cs) c × Stands vars clauses lits cs
