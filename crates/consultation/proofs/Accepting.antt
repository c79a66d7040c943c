-- Steps in the log, behind those before them.
use Rattle.std.proofs.Common.{◌≡◌, ℕ, ◌+◌, ◌≤◌, List, [], ◌++◌, sym, ap, ◌∙◌, subst, append_assoc, append-nil, arith}
use Rattle.std.proofs.Common.{Option, Some, None, Ok, Err}
use Rattle.std.specs.Bool.{OnTrue}
use Rattle.std.specs.Prelude.{is_some}
use Rattle.std.specs.Io.KnownBytes.{Appends}
use Rattle.kb_io.proofs.KnownBytes.{appends_more, appends_none}
use Rattle.kb_logic.specs.Bases.{Base}
use Rattle.log_checker.specs.Growing.{Checking, GoesOn}
use Rattle.log_checker.proofs.Going.{goes-nowhere, goes-on-twice, accepted-so-far}
use Rattle.narrowed_bases.specs.Narrowings.{IsProblemOf}
use Rattle.verified_claims.specs.Verdicts.{IsFresh}
use Rattle.consultation.specs.Accepted.{IsAcceptedLog, IsLogged, LogsAccepted, IsBefore, IsUpTo, IsFreshFor}
use Rattle.consultation.specs.Accepted.{KeepsSteps, BreaksAfterSteps}
use Rattle.consultation.specs.declared.stop.Stop.{Stop}
use Rattle.consultation.specs.declared.stop.Stop.TheVariants as stop

-- nothing was written
pub keeps-none : (kb : Base) (n : ℕ) (c : Option Checking) (log : Option (List ℕ)) → IsUpTo kb n c
    → KeepsSteps n c c log log
keeps-none kb n None log up = tt
keeps-none kb n (Some c) log up =
    record { bytes = []; steps = goes-nowhere c; grew = appends_none log; line = up.1 }

pub up-to : (kb : Base) (m n : ℕ) (a b : Option Checking) (old new : Option (List ℕ)) → IsUpTo kb m a
    → KeepsSteps n a b old new → IsUpTo kb n b
up-to kb m n None None old new over keeps = tt
up-to kb m n None (Some b) old new over keeps = absurd keeps
up-to kb m n (Some a) None old new over keeps = absurd keeps
up-to kb m n (Some a) (Some b) old new over keeps =
    (subst (IsProblemOf kb) (sym keeps.steps.problem) over.0, keeps.line)

pub fresh-up-to : (kb : Base) (n : ℕ) (c : Option Checking) → IsFreshFor kb c → IsUpTo kb n c
fresh-up-to kb n None fresh = tt
fresh-up-to kb n (Some c) fresh =
    (fresh.0, subst (λ (d : Checking). d.state.line ≤ n) (sym fresh.1) (omega arith))

-- before the next line
pub before-next : (kb : Base) (n : ℕ) (c : Option Checking) → IsUpTo kb n c → IsBefore kb (n + 1) c
before-next kb n None up = tt
before-next kb n (Some c) up = let line : c.state.line ≤ n = up.1 in (up.0, omega (arith, line))

pub problem-before : (kb : Base) (n : ℕ) (o : Option Checking) (c : Checking) → o ≡ Some c → IsBefore kb n o
    → IsProblemOf kb c.problem
problem-before kb n o c is before =
    let there : IsBefore kb n (Some c) = subst (λ (x : Option Checking). IsBefore kb n x) is before in there.0

-- one line behind others
pub keeps-more : (m n : ℕ) (a b c : Option Checking) (old mid new : Option (List ℕ)) → KeepsSteps m a b old mid
    → KeepsSteps n b c mid new → KeepsSteps n a c old new
keeps-more m n None None None old mid new first second = tt
keeps-more m n None None (Some c) old mid new first second = absurd second
keeps-more m n None (Some b) c old mid new first second = absurd first
keeps-more m n (Some a) None c old mid new first second = absurd first
keeps-more m n (Some a) (Some b) None old mid new first second = absurd second
keeps-more m n (Some a) (Some b) (Some c) old mid new first second = record {
  bytes = first.bytes ++ second.bytes;
  steps = goes-on-twice a b c first.bytes second.bytes first.steps second.steps;
  grew = appends_more old mid new first.bytes second.bytes first.grew second.grew;
  line = second.line;
}

logged-more : (s : Stop) (old mid new : Option (List ℕ)) (xs ys : List ℕ) → Appends old mid xs → IsLogged s mid new ys
    → IsLogged s old new (xs ++ ys)
logged-more stop.ReadFault old mid new xs ys first second = appends_more old mid new xs ys first second
logged-more stop.WriteFault old mid new xs ys first second = appends_more old mid new xs ys first second
logged-more stop.LogFault old mid new xs ys first second = (
  xs ++ second.0,
  second.1,
  ap (λ (l : List ℕ). xs ++ l) second.2 ∙ sym (append_assoc xs second.0 second.1),
  appends_more old mid new xs second.0 first second.3,
)
logged-more stop.Memory old mid new xs ys first second = appends_more old mid new xs ys first second
logged-more stop.ScriptTooLong old mid new xs ys first second = appends_more old mid new xs ys first second

pub logged-whole : (s : Stop) (old new : Option (List ℕ)) (bytes : List ℕ) → Appends old new bytes
    → IsLogged s old new bytes
logged-whole stop.ReadFault old new bytes grew = grew
logged-whole stop.WriteFault old new bytes grew = grew
logged-whole stop.LogFault old new bytes grew = (bytes, [], sym (append-nil bytes), grew)
logged-whole stop.Memory old new bytes grew = grew
logged-whole stop.ScriptTooLong old new bytes grew = grew

-- an end behind lines
pub breaks-later : (s : Stop) (n : ℕ) (a b : Option Checking) (old mid new : Option (List ℕ))
    → KeepsSteps n a b old mid → BreaksAfterSteps s b mid new → BreaksAfterSteps s a old new
breaks-later s n None b old mid new first second = tt
breaks-later s n (Some a) None old mid new first second = absurd first
breaks-later s n (Some a) (Some b) old mid new first second = (
  first.bytes ++ second.0,
  second.1,
  goes-on-twice a b second.1 first.bytes second.0 first.steps second.2,
  logged-more s old mid new first.bytes second.0 first.grew second.3,
)

-- an end right behind them
pub breaks-here : (s : Stop) (n : ℕ) (a b : Option Checking) (old new : Option (List ℕ)) → KeepsSteps n a b old new
    → BreaksAfterSteps s a old new
breaks-here s n None b old new keeps = tt
breaks-here s n (Some a) None old new keeps = absurd keeps
breaks-here s n (Some a) (Some b) old new keeps =
    (keeps.bytes, b, keeps.steps, logged-whole s old new keeps.bytes keeps.grew)

-- an end before anything was written
pub breaks-none : (s : Stop) (a : Option Checking) (log : Option (List ℕ)) → BreaksAfterSteps s a log log
breaks-none s None log = tt
breaks-none s (Some a) log = ([], a, goes-nowhere a, logged-whole s log log [] (appends_none log))

module _ (kb : Base) where
  accepted-from : (a now : Checking) (bytes : List ℕ) → IsFresh kb a → GoesOn a bytes now → IsAcceptedLog kb bytes
  accepted-from a now bytes fresh steps = (
    now.state.claims,
    (
      a.problem,
      fresh.0,
      accepted-so-far a.problem bytes now (subst (λ (c : Checking). GoesOn c bytes now) fresh.1 steps),
    ),
  )

  -- from its first entry on, the log is accepted
  pub accepted-whole : (n : ℕ) (a b : Option Checking) (old new : Option (List ℕ)) → IsFreshFor kb a
      → KeepsSteps n a b old new → OnTrue (is_some a) (LogsAccepted (Ok tt) kb old new)
  accepted-whole n None b old new fresh keeps = tt
  accepted-whole n (Some a) None old new fresh keeps = absurd keeps
  accepted-whole n (Some a) (Some b) old new fresh keeps =
      (keeps.bytes, accepted-from a b keeps.bytes fresh keeps.steps, keeps.grew)

  -- up to where the answers ended
  pub accepted-early : (s : Stop) (a : Option Checking) (old new : Option (List ℕ)) → IsFreshFor kb a
      → BreaksAfterSteps s a old new → OnTrue (is_some a) (LogsAccepted (Err s) kb old new)
  accepted-early s None old new fresh breaks = tt
  accepted-early s (Some a) old new fresh breaks =
      (breaks.0, accepted-from a breaks.1 breaks.0 fresh breaks.2, breaks.3)
