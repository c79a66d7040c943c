-- What is printed of a refused file or log, of words that ask nothing, and of other texts.
use Rattle.std.specs.Prelude.{◌≡◌, ℕ, List, Option}
use Rattle.std.specs.Io.KnownBytes.{Appends}
use Rattle.kb_io.specs.Outside.{Rose}
use Rattle.kb_io.specs.ReadWrite.{AppendsPrefix}
use Rattle.kb_text.specs.declared.fault.K.{K}
use Rattle.idp_cli.specs.Files.{refusal_text, log_refusal_text, usage_text}
use Rattle.idp_cli.specs.declared.status.Status.{Status}
use Rattle.idp_cli.specs.declared.status.Status.TheVariants as status

-- the refusal is said, or could not be said whole; `before` and `now` are the output's counts of faults
abbrev pub PrintsRefusal : Status → K → ℕ → Option (List ℕ) → Option (List ℕ) → ℕ → ℕ → Type 0
PrintsRefusal (status.KbRefused cause place) k line old new before now = (now ≡ before) × (cause ≡ k) ×
    (place ≡ line) × Appends old new (refusal_text k line)
PrintsRefusal status.WriteFault k line old new before now = Rose before now × AppendsPrefix old new
    (refusal_text k line)
PrintsRefusal status.Memory k line old new before now = (now ≡ before) × (new ≡ old)
PrintsRefusal status.Done k line old new before now = ⊥
PrintsRefusal status.Usage k line old new before now = ⊥
PrintsRefusal status.ReadFault k line old new before now = ⊥
PrintsRefusal status.ScriptTooLong k line old new before now = ⊥
PrintsRefusal (status.LogRefused n) k line old new before now = ⊥

-- that this entry of the log is no step is said, or could not be said whole
abbrev pub PrintsLogRefusal : Status → ℕ → Option (List ℕ) → Option (List ℕ) → ℕ → ℕ → Type 0
PrintsLogRefusal (status.LogRefused entry) n old new before now =
    (now ≡ before) × (entry ≡ n) × Appends old new (log_refusal_text n)
PrintsLogRefusal status.WriteFault n old new before now = Rose before now × AppendsPrefix old new (log_refusal_text n)
PrintsLogRefusal status.Memory n old new before now = (now ≡ before) × (new ≡ old)
PrintsLogRefusal _ n old new before now = ⊥

-- `error usage` is said, or could not be said whole
abbrev pub PrintsUsage : Status → Option (List ℕ) → Option (List ℕ) → ℕ → ℕ → Type 0
PrintsUsage status.Usage old new before now = (now ≡ before) × Appends old new usage_text
PrintsUsage status.WriteFault old new before now = Rose before now × AppendsPrefix old new usage_text
PrintsUsage _ old new before now = ⊥

-- the text is printed, or could not be printed whole
abbrev pub PrintsText : Status → List ℕ → Option (List ℕ) → Option (List ℕ) → ℕ → ℕ → Type 0
PrintsText status.Done text old new before now = (now ≡ before) × Appends old new text
PrintsText status.WriteFault text old new before now = Rose before now × AppendsPrefix old new text
PrintsText status.Memory text old new before now = (now ≡ before) × (new ≡ old)
PrintsText _ text old new before now = ⊥
