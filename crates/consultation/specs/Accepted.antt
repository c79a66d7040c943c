-- That the log of a consultation is accepted.
use Rattle.std.specs.Prelude.{◌≤◌, ◌<◌, ℕ, List, Option, Some, None, IfSome, Result, Ok, Err, ⊤}
use Rattle.std.specs.Io.KnownBytes.{Appends}
use Rattle.kb_io.specs.ReadWrite.{AppendsPrefix}
use Rattle.kb_logic.specs.Bases.{Base}
use Rattle.derivation_log.specs.declared.claims.Claim.{Claim}
use Rattle.log_checker.specs.Growing.{Checking, GoesOn}
use Rattle.narrowed_bases.specs.Narrowings.{IsProblemOf}
use Rattle.verified_claims.specs.Verdicts.{IsAcceptedOver, IsFresh}
use Rattle.consultation.specs.declared.stop.Stop.{Stop}
use Rattle.consultation.specs.declared.stop.Stop.TheVariants as stop

-- the bytes are a log that is accepted over the ground problem of the knowledge base
abbrev pub IsAcceptedLog : Base → List ℕ → Type 0
IsAcceptedLog kb bytes = (claims : List Claim) × IsAcceptedOver kb bytes claims

-- these bytes were written to the log, or a prefix of them, where it is the log that failed
abbrev pub IsLogged : Stop → Option (List ℕ) → Option (List ℕ) → List ℕ → Type 0
IsLogged stop.ReadFault old new bytes = Appends old new bytes
IsLogged stop.WriteFault old new bytes = Appends old new bytes
IsLogged stop.LogFault old new bytes = AppendsPrefix old new bytes
IsLogged stop.Memory old new bytes = Appends old new bytes
IsLogged stop.ScriptTooLong old new bytes = Appends old new bytes

-- the log grew by one that is accepted; where writing to it failed, by a prefix of one
abbrev pub LogsAccepted : Result Unit Stop → Base → Option (List ℕ) → Option (List ℕ) → Type 0
LogsAccepted (Ok x) kb old new = (bytes : List ℕ) × IsAcceptedLog kb bytes × Appends old new bytes
LogsAccepted (Err s) kb old new = (bytes : List ℕ) × IsAcceptedLog kb bytes × IsLogged s old new bytes

-- the log, where one is kept, is over the ground problem of the knowledge base, and its marks are of lines up to this
-- one
abbrev pub IsUpTo : Base → ℕ → Option Checking → Type 0
IsUpTo kb n checker = IfSome checker (λ c. IsProblemOf kb c.problem × (c.state.line ≤ n))

-- the same, and its marks are of lines before this one
abbrev pub IsBefore : Base → ℕ → Option Checking → Type 0
IsBefore kb n checker = IfSome checker (λ c. IsProblemOf kb c.problem × (c.state.line < n))

-- no entry is in the log, where one is kept
abbrev pub IsFreshFor : Base → Option Checking → Type 0
IsFreshFor kb checker = IfSome checker (IsFresh kb)

-- what the log grew by are steps behind those that the checker knew; it knows them now, and their marks are of lines up
-- to this one
pub record GrowsBySteps (n : ℕ) (before now : Checking) (old new : Option (List ℕ)) : Type 0 where
  pub bytes : List ℕ
  pub steps : GoesOn before bytes now
  pub grew : Appends old new bytes
  pub line : now.state.line ≤ n

-- the same, where a log is kept
abbrev pub KeepsSteps : ℕ → Option Checking → Option Checking → Option (List ℕ) → Option (List ℕ) → Type 0
KeepsSteps n None None old new = ⊤
KeepsSteps n (Some before) (Some now) old new = GrowsBySteps n before now old new
KeepsSteps n _ _ old new = ⊥

-- and where the answers end early: what was written to the log are such steps, or, where it failed, a prefix of them
abbrev pub BreaksAfterSteps : Stop → Option Checking → Option (List ℕ) → Option (List ℕ) → Type 0
BreaksAfterSteps s None old new = ⊤
BreaksAfterSteps s (Some before) old new =
    (bytes : List ℕ) × (now : Checking) × GoesOn before bytes now × IsLogged s old new bytes
