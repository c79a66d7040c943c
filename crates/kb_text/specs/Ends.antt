-- Where what was opened ends first.
use Rattle.std.specs.Prelude.{ℕ, ◌+◌, List, [], ◌∷◌, Option, Some, None, Bool, not, ◌==◌, ◌&&◌, if◌then◌else◌}

abbrev pub later_by : ℕ → Option ℕ → Option ℕ
later_by i None = None
later_by i (Some n) = Some (i + n)

abbrev pub is_end : ℕ → ℕ → ℕ → ℕ → Bool
is_end first second a b = (a == first) && (b == second)

-- how many bytes there are up to the first of these pairs and with it
abbrev pub close_of : ℕ → ℕ → List ℕ → Option ℕ
close_of first second [] = None
close_of first second (a ∷ []) = None
close_of first second (a ∷ b ∷ bs) = if is_end first second a b then Some 2 else
    later_by 1 (close_of first second (b ∷ bs))

-- this byte, with no backslash that takes it along
abbrev pub is_unescaped : Bool → ℕ → ℕ → Bool
is_unescaped escaped wanted b = not escaped && (b == wanted)

-- how many bytes there are up to the quote and with it; a backslash (92) takes the byte after it along
abbrev pub quoted_of : Bool → ℕ → List ℕ → Option ℕ
quoted_of escaped quote [] = None
quoted_of escaped quote (b ∷ bs) = if is_unescaped escaped quote b then Some 1 else
    later_by 1 (quoted_of (is_unescaped escaped 92 b) quote bs)
