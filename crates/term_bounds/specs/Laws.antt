-- Laws of bounds on terms.
use Rattle.std.specs.Prelude.{◌≡◌, ℕ, ◌≤ℤ◌, Bool, Some, Option, List}
use Rattle.kb_logic.specs.declared.elements.ExtInt.{ExtInt}
use Rattle.kb_logic.specs.declared.syntax.AggKind.{AggKind}
use Rattle.kb_logic.specs.Denotations.{number}
use Rattle.lit_core.specs.declared.literals.Lit.{Lit}
use Rattle.lit_core.specs.Literals.{literal_value, value_in}
use Rattle.ground_core.specs.declared.parts.GroundTerm.{GroundTerm}
use Rattle.ground_core.specs.declared.parts.Part.{Part}
use Rattle.ground_core.specs.Meaning.{term_value}
use Rattle.term_bounds.specs.Amounts.{is_under, lessened}
use Rattle.term_bounds.specs.Totals.{total, total_bound}
use Rattle.term_bounds.specs.Shares.{least_total}

-- a term is below a bound exactly where what its true parts count is below a bound on that
abbrev pub BoundsByTotals : Type 0
BoundsByTotals = (v : ℕ → Bool) (t : GroundTerm) (below : ExtInt) →
    is_under below (term_value v t) ≡ is_under (total_bound t.kind (lessened t.base below))
    (number (total v t.kind (lessened t.base below) t.parts))

-- the valuation gives each literal the value that the assignment has for it, if any
abbrev pub Extends : List (Option Bool) → (ℕ → Bool) → Type 0
Extends a v = (l : Lit) (b : Bool) → value_in a l ≡ Some b → literal_value v l ≡ b

-- parts count no less in any valuation that extends the assignment
abbrev pub LeastIsLeast : Type 0
LeastIsLeast = (a : List (Option Bool)) (v : ℕ → Bool) (k : AggKind) (bound : ExtInt) (ps : List Part) → Extends a v
    → least_total a k bound ps ≤ℤ total v k bound ps
