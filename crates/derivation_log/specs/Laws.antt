-- Laws of accepted logs.
use Rattle.std.specs.Prelude.{◌≡◌, ℕ, List, ◌++◌, All}
use Rattle.derivation_log.specs.Texts.{put_entry, IsWritten}
use Rattle.derivation_log.specs.declared.entries.Entry.{Entry}
use Rattle.derivation_log.specs.Lines.{entry_text}
use Rattle.derivation_log.specs.Checks.{IsAccepted, IsFirstBad}
use Rattle.ground_core.specs.Problems.{ProblemState, IsProblem}
use Rattle.derivation_log.specs.declared.entries.Entry.{Entry}
use Rattle.derivation_log.specs.declared.claims.Claim.{Claim}
use Rattle.derivation_log.specs.Steps.{start, Accepts, after_all}
use Rattle.derivation_log.specs.Claims.{ClaimHolds}

-- each claim of an accepted log is true of the problem
abbrev pub AcceptedLogsClaimTheTruth : Type 0
AcceptedLogsClaimTheTruth = (p : ProblemState) (log : List Entry) → IsProblem p → Accepts p (start p) log
    → All (ClaimHolds p) (after_all (start p) log).claims

-- where the texts of two entries begin bytes, they are one entry, with the same bytes behind
abbrev pub OneReading : Type 0
OneReading = (d e : Entry) (r s : List ℕ) → IsWritten d → IsWritten e → put_entry d r ≡ put_entry e s → (d ≡ e)
    × (r ≡ s)

-- a log has at most one answer
abbrev pub OneAnswer : Type 0
OneAnswer = (p : ProblemState) (bytes : List ℕ) →
    ((xs ys : List Claim) → IsAccepted p bytes xs → IsAccepted p bytes ys → xs ≡ ys)
    × ((m n : ℕ) → IsFirstBad p bytes m → IsFirstBad p bytes n → m ≡ n)
    × ((xs : List Claim) (n : ℕ) → IsAccepted p bytes xs → IsFirstBad p bytes n → ⊥)

-- the text that is written is that of the fields
abbrev pub TextIsOfTheFields : Type 0
TextIsOfTheFields = (e : Entry) (rest : List ℕ) → IsWritten e → put_entry e rest ≡ entry_text e ++ rest
