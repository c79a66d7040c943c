-- Selectors that are false for good.
use Rattle.std.specs.Prelude.{◌≡◌, ℕ, true, List, map, eqb, All}
use Rattle.std.specs.List.{IsDistinct}
use Rattle.lit_core.specs.declared.literals.Lit.{Lit}

-- the numbers of the literals' variables
abbrev pub variables_of : List Lit → List ℕ
variables_of ls = map (λ (l : Lit). l.var.0) ls

-- positive literals, each of another variable
pub record AreSelectors (ls : List Lit) : Type 0 where
  pub once : IsDistinct eqb (variables_of ls)
  pub positive : All (λ (l : Lit). l.positive ≡ true) ls
