-- A report goes on case by case.
use Rattle.std.proofs.Common.{ℕ, ◌++◌, List, take, drop, Some, None, append_assoc}
use Rattle.memchr.specs.Find.{FindsNeedle}
use Rattle.reading_cases.specs.Reports.{marker, Adds, IsReport, last, next}
use Rattle.reading_cases.specs.Lines.{IsLine}

-- what is printed goes on to a report of all texts, given a report of the rest
abbrev pub GoesOn : List ℕ → List ℕ → List ℕ → Type 0
GoesOn texts rest lines = (more : List ℕ) → IsReport rest more → IsReport texts (lines ++ more)

pub one_more : (texts rest lines new : List ℕ) {len : ℕ} → GoesOn texts rest lines
    → FindsNeedle rest marker 0 (Some len) → Adds IsLine (take len rest) lines new
    → GoesOn texts (drop 6 (drop len rest)) new
one_more texts rest lines new {len} goes_on found (line, is_line, is) = λ more h.
    rw (is, append_assoc) (goes_on (line ++ more) (next line len found is_line h))

pub the_last : (texts rest lines new : List ℕ) → GoesOn texts rest lines → FindsNeedle rest marker 0 None
    → Adds IsLine rest lines new → IsReport texts new
the_last texts rest lines new goes_on found (line, is_line, is) = rw is (goes_on line (last found is_line))
