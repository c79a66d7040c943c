-- The part of a line around a place, as it is shown, and the caret under the place.
use Rattle.std.specs.Prelude.{ℕ, ◌-◌, ◌+◌, List, [], ◌∷◌, ◌++◌, length, take, drop, map, flat_map, Bool, not, codes}
use Rattle.std.specs.Prelude.{nat_le, nat_lt, min, ◌/◌, ◌%◌, ◌==◌, ◌&&◌, if◌then◌else◌}
use Rattle.std.specs.List.{suffix_len, prefix_len}
use Rattle.refusal_notes.specs.Spots.{is_line_byte}

-- so many bytes of a line are shown on either side of a place
abbrev pub most_shown : ℕ
most_shown = 60

-- the digit of a number below 16
abbrev pub hex_digit : ℕ → ℕ
hex_digit n = if nat_lt n 10 then n + 48 else n + 87

-- a byte as it is shown: a sign of ASCII as it is, a blank for a tab, `\xNN` for any other
abbrev pub shown_byte : ℕ → List ℕ
shown_byte b =
    if nat_le 32 b && nat_lt b 127 then b ∷ []
    else (if b == 9 then 32 ∷ [] else 92 ∷ 120 ∷ hex_digit (b / 16) ∷ hex_digit (b % 16) ∷ [])

-- the same, but where the bytes around it are text, those of a letter beyond ASCII as they are
abbrev pub shown : Bool → ℕ → List ℕ
shown is_text b = if is_text && nat_le 128 b then b ∷ [] else shown_byte b

-- the blanks of the same width: one for each sign, and none for a byte that goes on with a letter
abbrev pub blanks : Bool → ℕ → List ℕ
blanks is_text b = if is_text && (nat_le 128 b && nat_lt b 192) then [] else map (λ _. 32) (shown is_text b)

-- a byte that ends no line, and does not return to its beginning
abbrev pub is_shown_byte : ℕ → Bool
is_shown_byte b = not (b == 10) && not (b == 13)

-- the bytes of the last line, at most so many: the nearest to what follows
abbrev pub nearest : List ℕ → List ℕ
nearest front = drop (length front - min most_shown (suffix_len is_line_byte front)) front

-- the bytes of the first line, at most so many
abbrev pub first_bytes : List ℕ → List ℕ
first_bytes behind = take (min most_shown (prefix_len is_shown_byte behind)) behind

-- what tells that more of the line stands there than is shown
abbrev pub dots : ℕ → List ℕ
dots len = if nat_lt most_shown len then codes "..." else []

-- The line around a place as it is shown. The two tests say whether what stands before and behind it is text.
abbrev pub shown_line : Bool → Bool → List ℕ → List ℕ → List ℕ
shown_line front_is_text is_text front behind =
    dots (suffix_len is_line_byte front) ++ (flat_map (shown front_is_text) (nearest front)
    ++ (flat_map (shown is_text) (first_bytes behind) ++ dots (prefix_len is_shown_byte behind)))

-- the caret, and left of it a blank for each sign that is shown before the place
abbrev pub caret_line : Bool → List ℕ → List ℕ
caret_line front_is_text front =
    map (λ _. 32) (dots (suffix_len is_line_byte front))
    ++ (flat_map (blanks front_is_text) (nearest front) ++ codes "^")

-- the line around a place, and under it the caret, below the first byte behind the place
abbrev pub excerpt : Bool → Bool → List ℕ → List ℕ → List ℕ
excerpt front_is_text is_text front behind =
    codes "  " ++ (shown_line front_is_text is_text front behind ++ (codes "\n  " ++ (caret_line front_is_text front
    ++ codes "\n")))
