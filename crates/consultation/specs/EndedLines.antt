-- The lines that end within the bytes taken of an input.
use Rattle.std.specs.Prelude.{◌≡◌, ◌⊎◌, ℕ, List, take, Option}
use Rattle.std.specs.Io.KnownBytes.{IsAtEnd}
use Rattle.kb_io.specs.Lines.{newlines, command_lines}

-- the lines that a newline ends: the first ones, as many as there are newlines
abbrev pub ended_lines : List ℕ → List (List ℕ)
ended_lines bytes = take (newlines bytes) (command_lines bytes)

-- These lines ended within the bytes taken: each by its newline, but for a last one that may have ended with the input.
abbrev pub HaveEnded : List (List ℕ) → List ℕ → Option (List ℕ) → Type 0
HaveEnded lines taken left = (lines ≡ ended_lines taken) ⊎ (IsAtEnd left × (lines ≡ command_lines taken))
