-- A log that is checked as it grows.
use Rattle.std.specs.Prelude.{◌≡◌, ℕ, Bool, true, false, List, [], All}
use Rattle.ground_core.specs.Problems.{ProblemState}
use Rattle.derivation_log.specs.declared.entries.Entry.{Entry}
use Rattle.derivation_log.specs.Texts.{IsWritten}
use Rattle.derivation_log.specs.Steps.{CheckState, start, Accepts, after_all}
use Rattle.derivation_log.specs.Checks.{put_entries}

-- what a checker knows of a log
pub record Checking : Type 0 where
  -- the ground problem
  pub problem : ProblemState
  -- what the entries so far leave
  pub state : CheckState

-- there is no entry yet
abbrev pub beginning : ProblemState → Checking
beginning p = record { problem = p; state = start p }

-- this is known of a log over the problem
abbrev pub known : ProblemState → CheckState → Checking
known p st = record { problem = p; state = st }

-- the bytes are those of entries, each a step after those before it, and this is known behind them
pub record GoesOn (old : Checking) (bytes : List ℕ) (new : Checking) : Type 0 where
  pub problem : new.problem ≡ old.problem
  pub entries : List Entry
  pub written : All IsWritten entries
  pub text : bytes ≡ put_entries entries []
  pub steps : Accepts old.problem old.state entries
  pub leaves : new.state ≡ after_all old.state entries

-- at true the log goes on by the statement, and this line's mark is the last one then; at false it stays as it was, and
-- by this statement it cannot go on so
abbrev pub Answers : Checking → ℕ → List ℕ → Checking → Bool → Type 0
Answers old line bytes new true = GoesOn old bytes new × (new.state.line ≡ line)
Answers old line bytes new false = (new ≡ old) × ((c : Checking) → GoesOn old bytes c → c.state.line ≡ line → ⊥)

-- the state is what entries leave behind the other, each a step after those before it
abbrev pub Reaches : ProblemState → CheckState → CheckState → Type 0
Reaches p old new = (entries : List Entry) × Accepts p old entries × (after_all old entries ≡ new)
