-- How a file is refused, and how it is loaded.
use Rattle.std.specs.Prelude.{◌≡◌, ℕ, ◌+◌, List, ◌++◌, take, codes, Option, Result, Ok, Err}
use Rattle.std.specs.Fmt.{decimal}
use Rattle.kb_io.specs.Lines.{newlines}
use Rattle.kb_io.specs.Outside.{Rose}
use Rattle.kb_text.specs.Refusals.{text_of}
use Rattle.kb_text.specs.declared.fault.K.{K}
use Rattle.kb_text.specs.declared.fault.KbFault.{KbFault}
use Rattle.consult_base.specs.Opened.{Opened}
use Rattle.base_reader.specs.FileMeanings.{Choice, FileMeans, IsRefused}
use Rattle.base_reader.specs.Readings.{meaning_of}
use Rattle.consultation.specs.Streams.{IfObservable}
use Rattle.idp_cli.specs.declared.load.LoadError.{LoadError}
use Rattle.idp_cli.specs.declared.load.LoadError.TheVariants as load_error

-- the line of a place in the bytes: one more than the newlines before it
abbrev pub line_of : ℕ → List ℕ → ℕ
line_of place bytes = newlines (take place bytes) + 1

-- the file is refused for this cause, at this line
abbrev pub IsRefusedAt : Choice → K → ℕ → List ℕ → Type 0
IsRefusedAt c k line bytes = (q : KbFault) × IsRefused c bytes q × (k ≡ q.cause) × (line ≡ line_of q.place bytes)

-- the line that says so
abbrev pub refusal_text : K → ℕ → List ℕ
refusal_text k line = codes "error " ++ (text_of k ++ (codes " line " ++ (decimal line ++ codes "\n")))

-- the line that says that this entry of a log is no step
abbrev pub log_refusal_text : ℕ → List ℕ
log_refusal_text n = codes "error log entry " ++ (decimal n ++ codes "\n")

-- the line that says that words ask nothing
abbrev pub usage_text : List ℕ
usage_text = codes "error usage\n"

-- how the file was loaded: what it means, or why it was not; `before` and `now` are the shelf's counts of faults
abbrev pub Loads : Choice → Result Opened LoadError → Option (List ℕ) → ℕ → ℕ → Type 0
Loads c (Ok kb) file before now = (now ≡ before) × IfObservable file (λ bytes. FileMeans c bytes (meaning_of kb))
Loads c (Err (load_error.Refused k line)) file before now = (now ≡ before) × IfObservable file (IsRefusedAt c k line)
Loads c (Err load_error.ReadFault) file before now = Rose before now
Loads c (Err load_error.Memory) file before now = now ≡ before

-- the same for bytes that are at hand
abbrev pub Takes : Choice → Result Opened LoadError → List ℕ → Type 0
Takes c (Ok kb) bytes = FileMeans c bytes (meaning_of kb)
Takes c (Err (load_error.Refused k line)) bytes = IsRefusedAt c k line bytes
Takes c (Err load_error.ReadFault) bytes = ⊥
Takes c (Err load_error.Memory) bytes = Unit {0}
