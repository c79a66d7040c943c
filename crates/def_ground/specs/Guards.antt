-- Guards as one literal.
use Rattle.std.specs.Prelude.{List, [], ◌∷◌, true}
use Rattle.lit_core.specs.declared.literals.Lit.{Lit}
use Rattle.ground_core.specs.Problems.{ProblemState}
use Rattle.ground_core.specs.Growth.{next_lit, with_gate}

-- a literal, and the problem that defines it
pub record Guarded : Type 0 where
  pub lit : Lit
  pub problem : ProblemState

-- a literal that says that all of the guards are true: one alone says so itself, else a gate does
abbrev pub guarded_by : List Lit → ProblemState → Guarded
guarded_by [] p = record { lit = next_lit p; problem = with_gate p true [] }
guarded_by (l ∷ []) p = record { lit = l; problem = p }
guarded_by (l ∷ m ∷ ls) p = record { lit = next_lit p; problem = with_gate p true (l ∷ m ∷ ls) }
