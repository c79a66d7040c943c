-- The line and the column of a place in a text.
use Rattle.std.specs.Prelude.{ℕ, ◌+◌, List, Bool, ◌==◌, not}
use Rattle.std.specs.List.{suffix_len}
use Rattle.kb_io.specs.Lines.{newlines}

-- a byte that ends no line
abbrev pub is_line_byte : ℕ → Bool
is_line_byte b = not (b == 10)

-- the line of what follows these bytes: one more than the newlines among them
abbrev pub line_behind : List ℕ → ℕ
line_behind front = newlines front + 1

-- its column: one more than the bytes behind the last of these newlines
abbrev pub column_behind : List ℕ → ℕ
column_behind front = suffix_len is_line_byte front + 1
