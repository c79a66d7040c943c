-- Lines of bytes. A newline is the byte 10.
use Rattle.std.specs.Prelude.{◌≡◌, ℕ, ◌+◌, ◌<◌, ◌⊎◌, List, [], ◌∷◌, ◌++◌, length, replicate, count_by, ◌==◌}
use Rattle.std.specs.Prelude.{if◌then◌else◌, Option, Some, None}
use Rattle.std.specs.List.{AllByRecursion}
use Rattle.std.specs.Io.KnownBytes.{IsAtEnd}

-- how many newlines there are
abbrev pub newlines : List ℕ → ℕ
newlines bytes = count_by (λ b. b == 10) bytes

-- the byte stands before the first of the lines, or is a line alone where there is none
abbrev pub onto_first : ℕ → List (List ℕ) → List (List ℕ)
onto_first byte [] = (byte ∷ []) ∷ []
onto_first byte (line ∷ lines) = (byte ∷ line) ∷ lines

-- The pieces between the newlines. A last piece without a newline counts where it is not empty.
abbrev pub command_lines : List ℕ → List (List ℕ)
command_lines [] = []
command_lines (byte ∷ bytes) = if byte == 10 then [] ∷ command_lines bytes else onto_first byte (command_lines bytes)

-- each line, and a newline after it
abbrev pub ended : List (List ℕ) → List ℕ
ended [] = []
ended (line ∷ lines) = line ++ 10 ∷ ended lines

-- The lines are the bytes, cut at the newlines: no line has a newline, and each line is ended by one, but for a last
-- line that is not empty and may end with the bytes.
pub record AreCutAtNewlines (bytes : List ℕ) (lines : List (List ℕ)) : Type 0 where
  pub whole : AllByRecursion (λ line. newlines line ≡ 0) lines
  pub cut : (bytes ≡ ended lines) ⊎ ((front : List (List ℕ)) × (last : List ℕ) × (lines ≡ front ++ last ∷ [])
      × (0 < length last) × (bytes ≡ ended front ++ last))

-- The first line of these bytes is `line`, and `rest` follows it: it ends by a newline, or by the end of the input
-- where it is not empty.
abbrev pub IsNextLine : List ℕ → List ℕ → List ℕ → Option (List ℕ) → Type 0
IsNextLine bytes line rest left = (newlines line ≡ 0)
    × ((bytes ≡ line ++ 10 ∷ rest) ⊎ ((bytes ≡ line) × (0 < length line) × (rest ≡ []) × IsAtEnd left))

-- the longest line that is kept
abbrev pub longest_line : ℕ
longest_line = 65536

-- the beginning of a line that has more bytes than the longest
abbrev pub IsLong : List ℕ → Type 0
IsLong bytes = (newlines bytes ≡ 0) × (longest_line < length bytes)

-- what stands for the beginning of a line that was too long to keep
unfoldable pub let_go : List ℕ
let_go = replicate (longest_line + 1) 0

-- the beginning of a line is kept as it is, or is too long and something else that is too long stands for it
abbrev pub StandsFor : List ℕ → List ℕ → Type 0
StandsFor kept bytes = (kept ≡ bytes) ⊎ (IsLong kept × IsLong bytes)

-- `line` is the first of the lines of what was ahead and left, and what is ahead and left then has the others
abbrev pub BeginsLines : List ℕ → Option (List ℕ) → List ℕ → List ℕ → Option (List ℕ) → Type 0
BeginsLines ahead None line rest left = Unit {0}
BeginsLines ahead (Some before) line rest None = ⊥
BeginsLines ahead (Some before) line rest (Some now) =
    command_lines (ahead ++ before) ≡ line ∷ command_lines (rest ++ now)

-- what is ahead and left has no line
abbrev pub HasNoLines : List ℕ → Option (List ℕ) → Type 0
HasNoLines ahead None = Unit {0}
HasNoLines ahead (Some left) = command_lines (ahead ++ left) ≡ []
