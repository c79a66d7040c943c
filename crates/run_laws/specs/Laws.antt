-- Where each status comes: what the words, the file and the commands leave to it.
use Rattle.std.specs.Prelude.{◌≡◌, ◌≢◌, ◌<◌, ◌≤◌, ℕ, List, Bool, Option, Some, length}
use Rattle.kb_text.specs.declared.fault.K.{K}
use Rattle.base_reader.specs.FileMeanings.{Choice, Meaning, FileMeans, base_of_meaning}
use Rattle.verified_claims.specs.Verdicts.{IsAcceptedOver, IsFirstBadOver}
use Rattle.derivation_log.specs.declared.claims.Claim.{Claim}
use Rattle.generated_files.specs.Texts.{file_text}
use Rattle.generated_files.specs.declared.kinds.Kind.{Kind}
use Rattle.idp_cli.specs.Jobs.{Job, consult, check, verify, make, summarise, file_of, Asks, IsUsage}
use Rattle.idp_cli.specs.Jobs.{AskForLog, IsLogPath}
use Rattle.idp_cli.specs.Summaries.{no_choice}
use Rattle.idp_cli.specs.Files.{IsRefusedAt}
use Rattle.idp_cli.specs.Runs.{Words, texts_of, Outside, RunEnds, most_log_bytes}
use Rattle.kb_io.specs.Pending.{most_bytes}
use Rattle.idp_cli.specs.declared.status.Status.{Status}
use Rattle.idp_cli.specs.declared.status.Status.TheVariants as status

-- the status is this one, unless the outside failed or memory was wanting
abbrev pub IsUnlessFailed : Status → Status → Type 0
IsUnlessFailed wanted status.ReadFault = Unit {0}
IsUnlessFailed wanted status.WriteFault = Unit {0}
IsUnlessFailed wanted status.Memory = Unit {0}
IsUnlessFailed wanted s = s ≡ wanted

-- words that are no command line give Usage
abbrev pub UsageLaw : Type 0
UsageLaw = (s : Status) (words : Words) (before now : Outside) → IsUsage (texts_of words) → RunEnds s words before now
    → IsUnlessFailed status.Usage s

-- and no others do
abbrev pub CommandLaw : Type 0
CommandLaw = (words : Words) (before now : Outside) (job : Job) → Asks (texts_of words) job
    → RunEnds status.Usage words before now → ⊥

-- the choice among the file's theories and structures
abbrev pub choice_of : Job → Choice
choice_of (consult file c budget logs) = c
choice_of (check file c) = c
choice_of (verify file c log) = c
choice_of (make k n) = no_choice
choice_of (summarise k n) = no_choice

-- a file that is refused gives this refusal
abbrev pub RefusalLaw : Type 0
RefusalLaw = (s : Status) (words : Words) (before now : Outside) (job : Job) (file bytes : List ℕ) (k : K) (line : ℕ)
    → Asks (texts_of words) job → file_of job ≡ Some file → before.files file ≡ Some bytes
    → IsRefusedAt (choice_of job) k line bytes → RunEnds s words before now → IsUnlessFailed (status.KbRefused k line) s

-- and a file that means something gives none
abbrev pub TakingLaw : Type 0
TakingLaw = (k : K) (line : ℕ) (words : Words) (before now : Outside) (job : Job) (file bytes : List ℕ) (m : Meaning)
    → Asks (texts_of words) job → file_of job ≡ Some file → before.files file ≡ Some bytes
    → FileMeans (choice_of job) bytes m → RunEnds (status.KbRefused k line) words before now → ⊥

-- more commands than are read give ScriptTooLong
abbrev pub LengthLaw : Type 0
LengthLaw = (s : Status) (words : Words) (before now : Outside) (file bytes script : List ℕ) (c : Choice)
    (budget : Option ℕ) (logs : Bool) (m : Meaning) → Asks (texts_of words) (consult file c budget logs)
    → before.files file ≡ Some bytes → FileMeans c bytes m
    → before.streams.script ≡ Some script → most_bytes < length script → RunEnds s words before now
    → IsUnlessFailed status.ScriptTooLong s

-- and no others do
abbrev pub ShortLaw : Type 0
ShortLaw = (words : Words) (before now : Outside) (file bytes script : List ℕ) (c : Choice) (budget : Option ℕ)
    (logs : Bool) → Asks (texts_of words) (consult file c budget logs) → before.files file ≡ Some bytes
    → before.streams.script ≡ Some script → length script ≤ most_bytes
    → RunEnds status.ScriptTooLong words before now → ⊥

-- where a file that means something is consulted about and the commands are within their limit, all of them are
-- answered
abbrev pub DoneLaw : Type 0
DoneLaw = (s : Status) (words : Words) (before now : Outside) (file bytes script : List ℕ) (c : Choice)
    (budget : Option ℕ) (logs : Bool) (m : Meaning) → Asks (texts_of words) (consult file c budget logs)
    → before.files file ≡ Some bytes → FileMeans c bytes m
    → before.streams.script ≡ Some script → length script ≤ most_bytes → RunEnds s words before now
    → IsUnlessFailed status.Done s

-- and where such a file is checked, its structure is printed
abbrev pub CheckedLaw : Type 0
CheckedLaw = (s : Status) (words : Words) (before now : Outside) (file bytes : List ℕ) (c : Choice) (m : Meaning)
    → Asks (texts_of words) (check file c) → before.files file ≡ Some bytes → FileMeans c bytes m
    → RunEnds s words before now → IsUnlessFailed status.Done s

-- Words ask to verify this log, which has these bytes, by a file that means this. The log is under another name, since
-- what a shelf hands out under a name for the second time is not known.
pub record AskToVerify (words : Words) (before : Outside) (log : List ℕ) (m : Meaning) : Type 0 where
  pub file : List ℕ
  pub bytes : List ℕ
  pub choice : Choice
  pub path : List ℕ
  pub asks : Asks (texts_of words) (verify file choice path)
  pub held : before.files file ≡ Some bytes
  pub means : FileMeans choice bytes m
  pub other : path ≢ file
  pub log_held : before.files path ≡ Some log

-- a log that is accepted over the ground problem of what the file means, and has no more bytes than are read, gives
-- Done
abbrev pub AcceptedLogLaw : Type 0
AcceptedLogLaw = (s : Status) (words : Words) (before now : Outside) (log : List ℕ) (m : Meaning)
    (claims : List Claim) → AskToVerify words before log m → length log ≤ most_log_bytes
    → IsAcceptedOver (base_of_meaning m) log claims → RunEnds s words before now
    → IsUnlessFailed status.Done s

-- and no other does
abbrev pub VerifiedLaw : Type 0
VerifiedLaw = (words : Words) (before now : Outside) (log : List ℕ) (m : Meaning)
    → AskToVerify words before log m → RunEnds status.Done words before now
    → (claims : List Claim) × IsAcceptedOver (base_of_meaning m) log claims

-- one whose entry n is the first that is no step gives LogRefused with n
abbrev pub RefusedLogLaw : Type 0
RefusedLogLaw = (s : Status) (words : Words) (before now : Outside) (log : List ℕ) (m : Meaning) (n : ℕ)
    → AskToVerify words before log m → length log ≤ most_log_bytes
    → IsFirstBadOver (base_of_meaning m) log n → RunEnds s words before now
    → IsUnlessFailed (status.LogRefused n) s

-- and no other does
abbrev pub BadEntryLaw : Type 0
BadEntryLaw = (words : Words) (before now : Outside) (log : List ℕ) (m : Meaning) (n : ℕ)
    → AskToVerify words before log m → RunEnds (status.LogRefused n) words before now
    → IsFirstBadOver (base_of_meaning m) log n

-- one that has more bytes than are read gives ScriptTooLong
abbrev pub LongLogLaw : Type 0
LongLogLaw = (s : Status) (words : Words) (before now : Outside) (log : List ℕ) (m : Meaning)
    → AskToVerify words before log m → most_log_bytes < length log → RunEnds s words before now
    → IsUnlessFailed status.ScriptTooLong s

-- and no other does
abbrev pub ShortLogLaw : Type 0
ShortLogLaw = (words : Words) (before now : Outside) (log : List ℕ) (m : Meaning) → AskToVerify words before log m
    → length log ≤ most_log_bytes → RunEnds status.ScriptTooLong words before now → ⊥

-- words ask for a log exactly where they name a file for it
abbrev pub LogPathLaw : Type 0
LogPathLaw = (words : Words) → (AskForLog (texts_of words) → (p : List ℕ) × IsLogPath (texts_of words) p)
    × ((p : List ℕ) → IsLogPath (texts_of words) p → AskForLog (texts_of words))

-- a file that is made is printed
abbrev pub MadeLaw : Type 0
MadeLaw = (s : Status) (words : Words) (before now : Outside) (k : Kind) (n : ℕ) → Asks (texts_of words) (make k n)
    → RunEnds s words before now → IsUnlessFailed status.Done s

-- and where it means something, its summary is
abbrev pub SummarisedLaw : Type 0
SummarisedLaw = (s : Status) (words : Words) (before now : Outside) (k : Kind) (n : ℕ) (m : Meaning)
    → Asks (texts_of words) (summarise k n) → FileMeans no_choice (file_text k n) m → RunEnds s words before now
    → IsUnlessFailed status.Done s
