-- What is printed of a list of cases.
use Rattle.std.specs.Prelude.{◌≡◌, ◌++◌, ℕ, List, take, drop, codes, Some, None}
use Rattle.memchr.specs.Find.{FindsNeedle}
use Rattle.reading_cases.specs.Lines.{IsLine}

abbrev pub marker : List ℕ
marker = codes "\n====\n"

-- such a line is added for the case
abbrev pub Adds : (List ℕ → List ℕ → Type 0) → List ℕ → List ℕ → List ℕ → Type 0
Adds IsOne case old new = (line : List ℕ) × IsOne case line × (new ≡ old ++ line)

-- the lines of all cases: of the last one, or of the one before the first marker and then of those after it
pub data IsReport : List ℕ → List ℕ → Type 0 where
  last : {cases line : List ℕ} → FindsNeedle cases marker 0 None → IsLine cases line → IsReport cases line
  next : {cases lines : List ℕ} (line : List ℕ) (len : ℕ) → FindsNeedle cases marker 0 (Some len)
      → IsLine (take len cases) line → IsReport (drop 6 (drop len cases)) lines → IsReport cases (line ++ lines)
