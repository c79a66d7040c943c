-- Bounds in the order of their selectors.
use Rattle.std.specs.Prelude.{◌≡◌, ℕ, ◌<◌, List, length, All, Contains, slice_index_or}
use Rattle.ground_core.specs.declared.parts.TermBound.{TermBound}

-- each selector's variable is below those after it
abbrev pub Ascend : List TermBound → Type 0
Ascend bs = (i k : ℕ) (d e : TermBound) → i < k → k < length bs
    → (slice_index_or bs i d).out.var.0 < (slice_index_or bs k e).out.var.0

-- all selectors' variables are below that of the bound
abbrev pub IsAfter : List TermBound → TermBound → Type 0
IsAfter bs b = Ascend bs → All (λ (c : TermBound). c.out.var.0 < b.out.var.0) bs

abbrev pub IsNotFound : List TermBound → ℕ → Type 0
IsNotFound bs var = (c : TermBound) → Contains bs c → c.out.var.0 ≡ var → ⊥

-- it is there, and the only one with this variable
abbrev pub IsFound : List TermBound → ℕ → TermBound → Type 0
IsFound bs var b = Contains bs b × (b.out.var.0 ≡ var) × ((c : TermBound) → Contains bs c → c.out.var.0 ≡ var → c ≡ b)
