-- A report goes on case by case.
use Rattle.std.proofs.Common.{ℕ, ◌++◌, List, None, append_assoc}
use Rattle.memchr.specs.Find.{FindsNeedle}
use Rattle.consult_cases.specs.Cases.{IsCutAt}
use Rattle.consult_cases.specs.Playing.{marker, Adds, IsPlayed, IsReport, last, next}

-- what is printed goes on to a report of all texts, given a report of the rest
abbrev pub GoesOn : List ℕ → List ℕ → List ℕ → Type 0
GoesOn texts rest lines = (more : List ℕ) → IsReport rest more → IsReport texts (lines ++ more)

pub one_more : (texts rest text after lines new : List ℕ) → GoesOn texts rest lines → IsCutAt marker rest text after
    → Adds IsPlayed text lines new → GoesOn texts after new
one_more texts rest text after lines new goes_on cut (piece, is_piece, is) = λ more h.
    rw (is, append_assoc) (goes_on (piece ++ more) (next text after cut is_piece h))

pub the_last : (texts rest lines new : List ℕ) → GoesOn texts rest lines → FindsNeedle rest marker 0 None
    → Adds IsPlayed rest lines new → IsReport texts new
the_last texts rest lines new goes_on found (piece, is_piece, is) = rw is (goes_on piece (last found is_piece))
