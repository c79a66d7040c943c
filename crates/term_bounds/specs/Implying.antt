-- What a bound implies.
use Rattle.std.specs.Prelude.{◌≡◌, ℕ, ℤ, ◌≤ℤ◌, Bool, Option, Some, None, List, ◌∷◌, slice_get, All, Any, ◌⊎◌}
use Rattle.kb_logic.specs.declared.elements.ExtInt.{ExtInt}
use Rattle.kb_logic.specs.declared.syntax.AggKind.{AggKind}
use Rattle.lit_core.specs.declared.literals.Lit.{Lit}
use Rattle.lit_core.specs.Literals.{value_in}
use Rattle.lit_core.specs.Truth.{IsFalsified, IsSatisfied}
use Rattle.ground_core.specs.declared.parts.GroundTerm.{GroundTerm}
use Rattle.ground_core.specs.declared.parts.Part.{Part}
use Rattle.ground_core.specs.declared.parts.TermBound.{TermBound}
use Rattle.term_bounds.specs.Breaking.{Holds}
use Rattle.term_bounds.specs.Reasons.{differ}
use Rattle.term_bounds.specs.Shares.{raised}
use Rattle.term_bounds.specs.Totals.{counted_as}

-- the part has no value, and the literal is true unless the part's literal gets this value, which raises what the parts
-- may count least by at least this much
pub record IsRaisedBy (a : List (Option Bool)) (k : AggKind) (bound : ExtInt) (low : ℤ) (l : Lit)
    (p : Part) : Type 0 where
  pub none : value_in a p.lit ≡ None
  pub value : Bool
  pub is : l ≡ record { var = p.lit.var; positive = differ p.lit.positive value }
  pub raise : low ≤ℤ raised (Some value) (counted_as k bound p.weight)

-- the literal has no value now, and is true where the bound holds and the reasons are false
pub record IsForced (t : GroundTerm) (b : TermBound) (a : List (Option Bool)) (c : List Lit) (l : Lit) : Type 0 where
  pub none : value_in a l ≡ None
  pub implied : (v : ℕ → Bool) → Holds v t b → IsSatisfied v (l ∷ c)
  pub within : Any (λ (u : Part). u.lit.var.0 ≡ l.var.0) t.parts

-- the reasons are false now, and each of the literals is forced by them
pub record IsImpliedBy (t : GroundTerm) (b : TermBound) (a : List (Option Bool)) (c lits : List Lit) : Type 0 where
  pub falsified : IsFalsified a c
  pub within : All (λ (l : Lit). (b.out.var.0 ≡ l.var.0) ⊎ Any (λ (u : Part). u.lit.var.0 ≡ l.var.0) t.parts) c
  pub forced : All (IsForced t b a c) lits

-- the same of the bound at this place
pub record IsImpliedAt (terms : List GroundTerm) (bounds : List TermBound) (a : List (Option Bool)) (place : ℕ)
    (c lits : List Lit) : Type 0 where
  pub bound : TermBound
  pub there : slice_get bounds place ≡ Some bound
  pub term : GroundTerm
  pub is_term : slice_get terms bound.term ≡ Some term
  pub by : IsImpliedBy term bound a c lits
