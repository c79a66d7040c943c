-- Flags of symbols.
use Rattle.std.specs.Prelude.{ℕ, List, Bool, false, unwrap_or, slice_get}

-- whether the rest of the symbol is false
abbrev pub is_closed : List Bool → ℕ → Bool
is_closed closed s = unwrap_or (slice_get closed s) false
