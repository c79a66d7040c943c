-- What a check answers.
use Rattle.std.specs.Prelude.{◌≡◌, ℕ, ◌+◌, ◌<◌, ◌≤◌, List, All, length, drop}
use Rattle.ground_core.specs.Problems.{ProblemState}
use Rattle.derivation_log.specs.declared.entries.Entry.{Entry}
use Rattle.derivation_log.specs.Steps.{CheckState, LogStep, after, Accepts, after_all}
use Rattle.derivation_log.specs.Texts.{IsWritten}
use Rattle.derivation_log.specs.Readings.{IsEntryAt}
use Rattle.derivation_log.specs.Checks.{put_entries, NoStepHere, IsFirstBad}
use Rattle.log_checker.specs.declared.refusals.Refused.{Refused}
use Rattle.log_checker.specs.declared.refusals.Refused.TheVariants.{Entry as Numbered, Memory}

-- a step stands from one place to the other, and leaves this
pub record Takes (p : ProblemState) (old : CheckState) (bytes : List ℕ) (at : ℕ) (next : ℕ)
    (new : CheckState) : Type 0 where
  pub entry : Entry
  pub here : IsEntryAt bytes at entry next
  pub step : LogStep p old entry
  pub leaves : new ≡ after old entry

-- the bytes up to the place are entries, each a step after those before it, which leave this; the next one is number n
pub record Stands (p : ProblemState) (first : CheckState) (bytes : List ℕ) (at : ℕ) (st : CheckState)
    (n : ℕ) : Type 0 where
  pub entries : List Entry
  pub written : All IsWritten entries
  pub text : bytes ≡ put_entries entries (drop at bytes)
  pub steps : Accepts p first entries
  pub state : after_all first entries ≡ st
  pub number : n ≡ length entries + 1
  pub below : n ≤ at + 1

-- it stands there, and goes no further
pub record ComesTo (p : ProblemState) (first : CheckState) (bytes : List ℕ) (at : ℕ) (st : CheckState)
    (n : ℕ) : Type 0 where
  pub stands : Stands p first bytes at st n
  pub ends : at < length bytes → NoStepHere p st (drop at bytes)

abbrev pub RefusedFor : ProblemState → List ℕ → Refused → Type 0
RefusedFor p bytes (Numbered n) = IsFirstBad p bytes n
RefusedFor p bytes Memory = Unit {0}
