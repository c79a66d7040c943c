-- Truth of clauses.
use Rattle.std.specs.Prelude.{◌≡◌, ℕ, Bool, true, false, Option, Some, None, List, Any, All, Contains, ◌⊎◌}
use Rattle.lit_core.specs.declared.literals.Lit.{Lit}
use Rattle.lit_core.specs.Literals.{literal_value, value_in}

-- some literal of the clause is true
abbrev pub IsSatisfied : (ℕ → Bool) → List Lit → Type 0
IsSatisfied v c = Any (λ l. literal_value v l ≡ true) c

-- every literal of the clause is false
abbrev pub IsFalsified : List (Option Bool) → List Lit → Type 0
IsFalsified a c = All (λ l. value_in a l ≡ Some false) c

-- the literal is unassigned, and every other literal of the clause is false
pub record IsUnitAt (a : List (Option Bool)) (c : List Lit) (l : Lit) : Type 0 where
  pub member : Contains c l
  pub unassigned : value_in a l ≡ None
  pub others : All (λ m. (m ≡ l) ⊎ (value_in a m ≡ Some false)) c

-- the clause is neither false nor unit
pub record IsSettled (a : List (Option Bool)) (c : List Lit) : Type 0 where
  pub not_false : IsFalsified a c → ⊥
  pub not_unit : (l : Lit) → IsUnitAt a c l → ⊥
