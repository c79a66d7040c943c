-- How the texts of cases are cut.
use Rattle.std.specs.Prelude.{◌≡◌, ℕ, List, length, take, drop, codes, Some}
use Rattle.memchr.specs.Find.{FindsNeedle}

-- what stands before the first marker, and what stands after it
pub record IsCutAt (marker text before after : List ℕ) : Type 0 where
  pub len : ℕ
  pub found : FindsNeedle text marker 0 (Some len)
  pub is_before : before ≡ take len text
  pub is_after : after ≡ drop (length marker) (drop len text)

abbrev pub section : List ℕ
section = codes "\n--\n"

-- a case has three sections: its head, its file and its commands
abbrev pub IsCase : List ℕ → List ℕ → List ℕ → List ℕ → Type 0
IsCase text head file script = (rest : List ℕ) × IsCutAt section text head rest × IsCutAt section rest file script
