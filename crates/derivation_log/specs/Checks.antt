-- What a checker answers.
use Rattle.std.specs.Prelude.{◌≡◌, ℕ, ◌+◌, List, [], ◌∷◌, length, All}
use Rattle.ground_core.specs.Problems.{ProblemState}
use Rattle.derivation_log.specs.declared.entries.Entry.{Entry}
use Rattle.derivation_log.specs.declared.claims.Claim.{Claim}
use Rattle.derivation_log.specs.Texts.{put_entry, IsWritten}
use Rattle.derivation_log.specs.Steps.{CheckState, start, LogStep, Accepts, after_all}

abbrev pub put_entries : List Entry → List ℕ → List ℕ
put_entries [] rest = rest
put_entries (e ∷ es) rest = put_entry e (put_entries es rest)

-- no text of an entry that is a step begins here
abbrev pub NoStepHere : ProblemState → CheckState → List ℕ → Type 0
NoStepHere p st bytes =
    (bytes ≡ [] → ⊥) × ((e : Entry) (more : List ℕ) → IsWritten e → bytes ≡ put_entry e more → LogStep p st e → ⊥)

-- the bytes are those of entries, each a step after those before it
pub record IsAccepted (p : ProblemState) (bytes : List ℕ) (claims : List Claim) : Type 0 where
  pub entries : List Entry
  pub written : All IsWritten entries
  pub text : bytes ≡ put_entries entries []
  pub steps : Accepts p (start p) entries
  pub claims_are : (after_all (start p) entries).claims ≡ claims

-- entry n is the first that is no step
pub record IsFirstBad (p : ProblemState) (bytes : List ℕ) (n : ℕ) : Type 0 where
  pub entries : List Entry
  pub rest : List ℕ
  pub written : All IsWritten entries
  pub text : bytes ≡ put_entries entries rest
  pub steps : Accepts p (start p) entries
  pub number : n ≡ length entries + 1
  pub bad : NoStepHere p (after_all (start p) entries) rest
