-- Why a sum cannot be below its bound.
use Rattle.std.specs.Prelude.{◌≡◌, ℕ, ℤ, ◌+ℤ◌, ◌≤ℤ◌, Bool, true, false, not, Option, List, All, Any, Contains, ◌⊎◌}
use Rattle.kb_logic.specs.declared.elements.ExtInt.{ExtInt}
use Rattle.kb_logic.specs.declared.syntax.AggKind.{AggKind}
use Rattle.lit_core.specs.declared.literals.Lit.{Lit}
use Rattle.lit_core.specs.Literals.{negated}
use Rattle.lit_core.specs.Truth.{IsFalsified}
use Rattle.ground_core.specs.declared.parts.Part.{Part}
use Rattle.ground_core.specs.Meaning.{AreAllFalse}
use Rattle.term_bounds.specs.Shares.{least_total, opened_total}
use Rattle.term_bounds.specs.Totals.{total}

-- the literals of parts are false now; wherever they are, the parts count at least the least that they may now, and what
-- those without a value count more, less the spare
pub record AreReasons (a : List (Option Bool)) (k : AggKind) (bound : ExtInt) (ps : List Part) (spare : ℤ)
    (c : List Lit) : Type 0 where
  pub falsified : IsFalsified a c
  pub total : (v : ℕ → Bool) → AreAllFalse v c → (least_total a k bound ps +ℤ opened_total a v k bound ps)
      ≤ℤ (total v k bound ps +ℤ spare)
  pub within : All (λ (l : Lit). Any (λ (u : Part). u.lit.var.0 ≡ l.var.0) ps) c

-- the clause is false now; wherever it is, the output is true and the parts count at least the least that they may now,
-- and what those without a value count more, less the spare
pub record IsReason (a : List (Option Bool)) (k : AggKind) (bound : ExtInt) (out : Lit) (ps : List Part) (spare : ℤ)
    (c : List Lit) : Type 0 where
  pub falsified : IsFalsified a c
  pub output : Contains c (negated out)
  pub total : (v : ℕ → Bool) → AreAllFalse v c → (least_total a k bound ps +ℤ opened_total a v k bound ps)
      ≤ℤ (total v k bound ps +ℤ spare)
  pub within : All (λ (l : Lit). (out.var.0 ≡ l.var.0) ⊎ Any (λ (u : Part). u.lit.var.0 ≡ l.var.0) ps) c

-- the sign that is false where a literal of this sign has this value
abbrev pub differ : Bool → Bool → Bool
differ true value = not value
differ false value = value
