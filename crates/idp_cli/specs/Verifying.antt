-- A log that is read, and what is printed of it.
use Rattle.std.specs.Prelude.{◌≡◌, ◌⊎◌, ℕ, ◌<◌, ◌≤◌, List, length, Option, Result, Ok, Err, Vec}
use Rattle.std.specs.Io.KnownBytes.{Appends}
use Rattle.std.specs.declared.alloc.Global.{Global}
use Rattle.kb_io.specs.Outside.{Rose}
use Rattle.kb_io.specs.ReadWrite.{AppendsPrefix}
use Rattle.kb_logic.specs.Bases.{Base}
use Rattle.consultation.specs.Streams.{IfObservable}
use Rattle.verified_claims.specs.Verdicts.{IsVerdict, IsLogError}
use Rattle.verified_claims.specs.declared.verdicts.LogError.TheVariants as log_error
use Rattle.idp_cli.specs.Files.{log_refusal_text}
use Rattle.idp_cli.specs.Runs.{most_log_bytes}
use Rattle.idp_cli.specs.declared.status.Status.{Status}
use Rattle.idp_cli.specs.declared.status.Status.TheVariants as status

-- the log was read to its end, or why not; `before` and `now` are the shelf's counts of faults
abbrev pub ReadsLog : Result (Vec ℕ Global) Status → Option (List ℕ) → ℕ → ℕ → Type 0
ReadsLog (Ok bytes) log before now =
    (now ≡ before) × (length bytes.items ≤ most_log_bytes) × IfObservable log (λ told. bytes.items ≡ told)
ReadsLog (Err status.ScriptTooLong) log before now =
    (now ≡ before) × IfObservable log (λ told. most_log_bytes < length told)
ReadsLog (Err status.ReadFault) log before now = Rose before now
ReadsLog (Err status.Memory) log before now = now ≡ before
ReadsLog (Err _) log before now = ⊥

-- the verdict on the log is printed, or that an entry of it is no step, or could not be printed whole; `before` and
-- `now` are the output's counts of faults
abbrev pub PrintsAnswer : Status → Base → List ℕ → Option (List ℕ) → Option (List ℕ) → ℕ → ℕ → Type 0
PrintsAnswer status.Done base log old new before now =
    (now ≡ before) × ((text : List ℕ) × IsVerdict base log text × Appends old new text)
PrintsAnswer (status.LogRefused n) base log old new before now =
    (now ≡ before) × IsLogError base log (log_error.Refused n) × Appends old new (log_refusal_text n)
PrintsAnswer status.WriteFault base log old new before now =
    Rose before now × (((text : List ℕ) × IsVerdict base log text × AppendsPrefix old new text)
    ⊎ ((n : ℕ) × IsLogError base log (log_error.Refused n) × AppendsPrefix old new (log_refusal_text n)))
PrintsAnswer status.Memory base log old new before now = (now ≡ before) × (new ≡ old)
PrintsAnswer _ base log old new before now = ⊥
