-- Literals, and their truth under a valuation of the variables or under a partial one.
use Rattle.std.specs.Prelude.{◌≡◌, ℕ, Bool, true, false, not, Option, Some, None, List, slice_index_or, slice_get}
use Rattle.lit_core.specs.declared.literals.Lit.{Lit}

-- the literal of the same variable with the other sign
abbrev pub negated : Lit → Lit
negated l = record { var = l.var; positive = not l.positive }

-- what a literal of this sign is where its variable has the value
abbrev pub by_sign : Bool → Bool → Bool
by_sign true value = value
by_sign false value = not value

-- a literal's value under a valuation of all variables
abbrev pub literal_value : (ℕ → Bool) → Lit → Bool
literal_value v l = by_sign l.positive (v l.var.0)

-- the valuation that a list of values gives
abbrev pub valuation : List Bool → ℕ → Bool
valuation values n = slice_index_or values n false

-- what a literal of this sign is where its variable may have a value
abbrev pub by_sign_if_any : Bool → Option Bool → Option Bool
by_sign_if_any sign None = None
by_sign_if_any sign (Some value) = Some (by_sign sign value)

-- a literal's value where some variables are unassigned
abbrev pub value_in : List (Option Bool) → Lit → Option Bool
value_in a l = by_sign_if_any l.positive (slice_index_or a l.var.0 None)

-- no literal stands at two places
abbrev pub HasEachOnce : List Lit → Type 0
HasEachOnce c = (i k : ℕ) (l : Lit) → slice_get c i ≡ Some l → slice_get c k ≡ Some l → i ≡ k
