-- The clauses that are held.
use Rattle.std.specs.Prelude.{ℕ, Option, List}
use Rattle.lit_core.specs.declared.literals.Lit.{Lit}

-- the clauses by their numbers, None where one was removed; a push of fewer literals than `spare` cannot fail
pub record ClauseDbState : Type 0 where
  pub clauses : List (Option (List Lit))
  pub spare : ℕ
