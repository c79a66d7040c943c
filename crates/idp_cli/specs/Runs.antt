-- The top call: when each status comes.
use Rattle.std.specs.Prelude.{◌≡◌, ◌≢◌, ◌⊎◌, ◌<◌, ◌≤◌, ℕ, List, length, map, Bool, true, Option, Result, Ok, Err}
use Rattle.std.specs.String.{string_bytes}
use Rattle.std.specs.Io.KnownBytes.{Appends}
use Rattle.std.specs.declared.string.String.{String}
use Rattle.std.specs.declared.alloc.Global.{Global}
use Rattle.kb_io.specs.Outside.{Rose, GrewByName, KeptNames}
use Rattle.kb_io.specs.ReadWrite.{AppendsPrefix}
use Rattle.kb_text.specs.declared.fault.K.{K}
use Rattle.consult_text.specs.States.{first_state}
use Rattle.generated_files.specs.Texts.{file_text}
use Rattle.generated_files.specs.declared.kinds.Kind.{Kind}
use Rattle.kb_logic.specs.declared.elements.ExtInt.{ExtInt}
use Rattle.kb_logic.specs.declared.structures.Literal.{Literal}
use Rattle.kb_logic.specs.Bases.{Base}
use Rattle.printed_texts.specs.Texts.{block_text}
use Rattle.base_reader.specs.FileMeanings.{Choice, Meaning, FileMeans, base_of_meaning}
use Rattle.consultation.specs.Accepted.{LogsAccepted}
use Rattle.consultation.specs.Answering.{HasReason, AnswersScript}
use Rattle.consultation.specs.Streams.{IfObservable, Streams, streams, held_by, IsWithoutFault}
use Rattle.consultation.specs.declared.stop.Stop.{Stop}
use Rattle.consultation.specs.declared.stop.Stop.TheVariants as stop
use Rattle.verified_claims.specs.Verdicts.{IsVerdict, IsLogError}
use Rattle.verified_claims.specs.declared.verdicts.LogError.TheVariants as log_error
use Rattle.idp_cli.specs.Jobs.{Job, consult, check, verify, make, summarise, Asks, IsUsage}
use Rattle.idp_cli.specs.Files.{IsRefusedAt, refusal_text, log_refusal_text, usage_text}
use Rattle.idp_cli.specs.Summaries.{FileAnswers, no_choice, summary_text}
use Rattle.idp_cli.specs.declared.status.Status.{Status}
use Rattle.idp_cli.specs.declared.status.Status.TheVariants as status

abbrev pub Words : Type 0
Words = List (String Global)

-- the words as they are spelled
abbrev pub texts_of : Words → List (List ℕ)
texts_of words = map string_bytes words

-- the devices at one moment, as far as they are observable: the files of the shelf and its count of faults, and the
-- streams
pub record Outside : Type 0 where
  pub files : List ℕ → Option (List ℕ)
  pub shelf_faults : ℕ
  pub streams : Streams

abbrev pub outside : (List ℕ → Option (List ℕ)) → ℕ → Streams → Outside
outside files shelf_faults streams = record { files = files; shelf_faults = shelf_faults; streams = streams }

-- exactly this text was printed; no command was taken, nothing was logged and no fault was counted
pub record Says (text : List ℕ) (before now : Outside) : Type 0 where
  pub shelf : now.shelf_faults ≡ before.shelf_faults
  pub faults : IsWithoutFault before.streams now.streams
  pub script : now.streams.script ≡ before.streams.script
  pub log : now.streams.log ≡ before.streams.log
  pub out : Appends before.streams.out now.streams.out text

-- a prefix of this text was printed, until the output failed; no command was taken, nothing was logged and no other
-- fault was counted
pub record SaysInPart (text : List ℕ) (before now : Outside) : Type 0 where
  pub shelf : now.shelf_faults ≡ before.shelf_faults
  pub script_faults : now.streams.script_faults ≡ before.streams.script_faults
  pub log_faults : now.streams.log_faults ≡ before.streams.log_faults
  pub fault : Rose before.streams.out_faults now.streams.out_faults
  pub script : now.streams.script ≡ before.streams.script
  pub log : now.streams.log ≡ before.streams.log
  pub out : AppendsPrefix before.streams.out now.streams.out text

-- the lines of the commands were answered by what the file means, as far as both are observable, and the answers ended
-- so
pub record AnswersByFile (result : Result Unit Stop) (file : List ℕ) (c : Choice) (budget : Option ℕ) (logs : Bool)
    (before now : Outside) : Type 0 where
  pub shelf : now.shelf_faults ≡ before.shelf_faults
  pub reason : HasReason logs result before.streams now.streams
  pub answers : IfObservable (before.files file) (λ bytes. (m : Meaning) × FileMeans c bytes m
      × IfObservable before.streams.script
      (λ script. AnswersScript logs result (base_of_meaning m) (first_state budget) script now.streams.script
      (held_by before.streams) (held_by now.streams)))

-- nothing was printed or logged and no command was taken, since a file could not be read
abbrev pub FailsToRead : Outside → Outside → Type 0
FailsToRead before now = Rose before.shelf_faults now.shelf_faults × (now.streams ≡ before.streams)

-- nothing was printed or logged and no command was taken
abbrev pub StaysAsBefore : Outside → Outside → Type 0
StaysAsBefore before now = (now.shelf_faults ≡ before.shelf_faults) × (now.streams ≡ before.streams)

-- the file is refused, and that is said
abbrev pub SaysRefusal : K → ℕ → List ℕ → Choice → Outside → Outside → Type 0
SaysRefusal k line file c before now = IfObservable (before.files file) (IsRefusedAt c k line)
    × Says (refusal_text k line) before now

-- the file is refused, and that could not be said whole
abbrev pub SaysRefusalInPart : List ℕ → Choice → Outside → Outside → Type 0
SaysRefusalInPart file c before now =
    (k : K) × (line : ℕ) × IfObservable (before.files file) (IsRefusedAt c k line)
    × SaysInPart (refusal_text k line) before now

-- the file gave no knowledge base, for this reason
abbrev pub FileFails : Status → List ℕ → Choice → Outside → Outside → Type 0
FileFails (status.KbRefused k line) file c before now = SaysRefusal k line file c before now
FileFails status.ReadFault file c before now = FailsToRead before now
FileFails status.WriteFault file c before now = SaysRefusalInPart file c before now
FileFails status.Memory file c before now = StaysAsBefore before now
FileFails _ file c before now = ⊥

-- the file means this, where it is observable
abbrev pub IsMeantBy : Meaning → List ℕ → Choice → Outside → Type 0
IsMeantBy m file c before = IfObservable (before.files file) (λ bytes. FileMeans c bytes m)

-- the status of a run in which the answers ended so
abbrev pub ended_as : Result Unit Stop → Status
ended_as (Ok x) = status.Done
ended_as (Err stop.ReadFault) = status.ReadFault
ended_as (Err stop.WriteFault) = status.WriteFault
ended_as (Err stop.LogFault) = status.WriteFault
ended_as (Err stop.Memory) = status.Memory
ended_as (Err stop.ScriptTooLong) = status.ScriptTooLong

-- What each status says of a consultation about this file. Before the commands are answered no byte of them is taken,
-- and nothing is written but that the file is refused.
abbrev pub ConsultationEnds : Status → List ℕ → Choice → Option ℕ → Bool → Outside → Outside → Type 0
ConsultationEnds (status.KbRefused k line) file c budget logs before now = SaysRefusal k line file c before now
ConsultationEnds status.Usage file c budget logs before now = ⊥
ConsultationEnds status.ReadFault file c budget logs before now =
    FailsToRead before now ⊎ AnswersByFile (Err stop.ReadFault) file c budget logs before now
ConsultationEnds status.WriteFault file c budget logs before now =
    SaysRefusalInPart file c before now
    ⊎ (AnswersByFile (Err stop.WriteFault) file c budget logs before now
    ⊎ AnswersByFile (Err stop.LogFault) file c budget logs before now)
ConsultationEnds status.Memory file c budget logs before now =
    StaysAsBefore before now ⊎ AnswersByFile (Err stop.Memory) file c budget logs before now
ConsultationEnds status.Done file c budget logs before now = AnswersByFile (Ok tt) file c budget logs before now
ConsultationEnds status.ScriptTooLong file c budget logs before now =
    AnswersByFile (Err stop.ScriptTooLong) file c budget logs before now
ConsultationEnds (status.LogRefused n) file c budget logs before now = ⊥

-- the canonical text of the structure that is chosen
abbrev pub structure_text : Meaning → List ℕ
structure_text m = block_text m.file.vocabulary m.structure m.known

-- the structure is printed, or a part of it; the file means it where it is observable
abbrev pub PrintsStructure : (List ℕ → Outside → Outside → Type 0) → List ℕ → Choice → Outside → Outside → Type 0
PrintsStructure Prints file c before now =
    (m : Meaning) × IsMeantBy m file c before × Prints (structure_text m) before now

-- What each status says of a check of this file: no command is taken, and nothing is written but the structure or that
-- the file is refused.
abbrev pub CheckEnds : Status → List ℕ → Choice → Outside → Outside → Type 0
CheckEnds (status.KbRefused k line) file c before now = SaysRefusal k line file c before now
CheckEnds status.Usage file c before now = ⊥
CheckEnds status.ReadFault file c before now = FailsToRead before now
CheckEnds status.WriteFault file c before now =
    SaysRefusalInPart file c before now ⊎ PrintsStructure SaysInPart file c before now
CheckEnds status.Memory file c before now = StaysAsBefore before now
CheckEnds status.Done file c before now = PrintsStructure Says file c before now
CheckEnds status.ScriptTooLong file c before now = ⊥
CheckEnds (status.LogRefused n) file c before now = ⊥

-- the most bytes of a log that are read
abbrev pub most_log_bytes : ℕ
most_log_bytes = 67108864

-- a fact about the log's bytes, where they are observable; what a shelf hands out under the file's own name, which it
-- was asked for before, is not
abbrev pub IfLogObservable : List ℕ → List ℕ → Outside → (List ℕ → Type 0) → Type 0
IfLogObservable file log before P = log ≢ file → IfObservable (before.files log) P

-- these are the log's bytes, as far as they are observable, and no more of them than are read
pub record AreLogBytes (bytes file log : List ℕ) (before : Outside) : Type 0 where
  pub within : length bytes ≤ most_log_bytes
  pub told : IfLogObservable file log before (λ told. bytes ≡ told)

-- the file means a knowledge base, over which this is so of the log's bytes, as far as both are observable
pub record LogIs (So : Base → List ℕ → Type 0) (file : List ℕ) (c : Choice) (log : List ℕ)
    (before : Outside) : Type 0 where
  pub meaning : Meaning
  pub means : IsMeantBy meaning file c before
  pub bytes : List ℕ
  pub are : AreLogBytes bytes file log before
  pub so : So (base_of_meaning meaning) bytes

-- the verdict on the log is printed, or a part of it
abbrev pub PrintsVerdict : (List ℕ → Outside → Outside → Type 0) → List ℕ → Choice → List ℕ → Outside → Outside
    → Type 0
PrintsVerdict Prints file c log before now =
    (text : List ℕ) × LogIs (λ base bytes. IsVerdict base bytes text) file c log before × Prints text before now

-- this entry of the log is the first that is no step, and that is said, or a part of it
abbrev pub RefusesLog : (List ℕ → Outside → Outside → Type 0) → ℕ → List ℕ → Choice → List ℕ → Outside → Outside
    → Type 0
RefusesLog Prints n file c log before now =
    LogIs (λ base bytes. IsLogError base bytes (log_error.Refused n)) file c log before
    × Prints (log_refusal_text n) before now

-- the file means a knowledge base, and the log has more bytes than are read, as far as both are observable
abbrev pub IsLogTooLong : List ℕ → Choice → List ℕ → Outside → Type 0
IsLogTooLong file c log before =
    ((m : Meaning) × IsMeantBy m file c before)
    × IfLogObservable file log before (λ told. most_log_bytes < length told)

-- What each status says of the verification of a log by this file: no command is taken, and nothing is written but the
-- verdict, or that the file or the log is refused.
abbrev pub VerificationEnds : Status → List ℕ → Choice → List ℕ → Outside → Outside → Type 0
VerificationEnds (status.KbRefused k line) file c log before now = SaysRefusal k line file c before now
VerificationEnds status.Usage file c log before now = ⊥
VerificationEnds status.ReadFault file c log before now = FailsToRead before now
VerificationEnds status.WriteFault file c log before now =
    SaysRefusalInPart file c before now
    ⊎ (PrintsVerdict SaysInPart file c log before now
    ⊎ ((n : ℕ) × RefusesLog SaysInPart n file c log before now))
VerificationEnds status.Memory file c log before now = StaysAsBefore before now
VerificationEnds status.Done file c log before now = PrintsVerdict Says file c log before now
VerificationEnds status.ScriptTooLong file c log before now =
    IsLogTooLong file c log before × StaysAsBefore before now
VerificationEnds (status.LogRefused n) file c log before now = RefusesLog Says n file c log before now

-- What each status says of a text that is printed: no command is taken, and nothing else is written.
abbrev pub TextEnds : Status → List ℕ → Outside → Outside → Type 0
TextEnds status.WriteFault text before now = SaysInPart text before now
TextEnds status.Memory text before now = StaysAsBefore before now
TextEnds status.Done text before now = Says text before now
TextEnds (status.KbRefused k line) text before now = ⊥
TextEnds status.Usage text before now = ⊥
TextEnds status.ReadFault text before now = ⊥
TextEnds status.ScriptTooLong text before now = ⊥
TextEnds (status.LogRefused n) text before now = ⊥

-- the summary of a file that is made is printed, or a part of it: the number of the literals that a right reply to
-- `propagate.` has, and the value that one to `minimize cost.` has
abbrev pub PrintsSummary : (List ℕ → Outside → Outside → Type 0) → Kind → ℕ → Outside → Outside → Type 0
PrintsSummary Prints k n before now =
    (forced : List Literal) × (least : ExtInt) × FileAnswers (file_text k n) forced least
    × Prints (summary_text k n (length forced) least) before now

-- What each status says of a summary of a file that is made: no command is taken, and nothing is written but the
-- summary or that the file is refused.
abbrev pub SummaryEnds : Status → Kind → ℕ → Outside → Outside → Type 0
SummaryEnds (status.KbRefused q line) k n before now =
    IsRefusedAt no_choice q line (file_text k n) × Says (refusal_text q line) before now
SummaryEnds status.Usage k n before now = ⊥
SummaryEnds status.ReadFault k n before now = ⊥
SummaryEnds status.WriteFault k n before now =
    ((q : K) × (line : ℕ) × IsRefusedAt no_choice q line (file_text k n) × SaysInPart (refusal_text q line) before now)
    ⊎ PrintsSummary SaysInPart k n before now
SummaryEnds status.Memory k n before now = StaysAsBefore before now
SummaryEnds status.Done k n before now = PrintsSummary Says k n before now
SummaryEnds status.ScriptTooLong k n before now = ⊥
SummaryEnds (status.LogRefused entry) k n before now = ⊥

-- how a job ends
abbrev pub JobEnds : Status → Job → Outside → Outside → Type 0
JobEnds s (consult file c budget logs) before now = ConsultationEnds s file c budget logs before now
JobEnds s (check file c) before now = CheckEnds s file c before now
JobEnds s (verify file c log) before now = VerificationEnds s file c log before now
JobEnds s (make k n) before now = TextEnds s (file_text k n) before now
JobEnds s (summarise k n) before now = SummaryEnds s k n before now

-- a run that has to do with the shelf and the output alone ends so, whatever the commands and the log are; it leaves
-- them as they are
abbrev pub OnFiles : (Outside → Outside → Type 0) → (shelf shelf' : Streams → Outside) → (old new : Option (List ℕ))
    → (before now : ℕ) → Type 0
OnFiles Ends shelf shelf' old new before now =
    (script : Option (List ℕ)) (script_faults : ℕ) (log : Option (List ℕ)) (log_faults : ℕ)
    → Ends (shelf (streams script script_faults old before log log_faults))
    (shelf' (streams script script_faults new now log log_faults))

-- and so does one that has to do with the output alone, whatever the shelf is
abbrev pub OnOutput : (Outside → Outside → Type 0) → Option (List ℕ) → Option (List ℕ) → ℕ → ℕ → Type 0
OnOutput Ends old new before now =
    (files : List ℕ → Option (List ℕ)) (shelf_faults : ℕ)
    → OnFiles Ends (outside files shelf_faults) (outside files shelf_faults) old new before now

-- the words are no command line, and that is said, or could not be said whole
abbrev pub UsageEnds : Status → Outside → Outside → Type 0
UsageEnds status.Usage before now = Says usage_text before now
UsageEnds status.WriteFault before now = SaysInPart usage_text before now
UsageEnds status.Done before now = ⊥
UsageEnds (status.KbRefused k line) before now = ⊥
UsageEnds status.ReadFault before now = ⊥
UsageEnds status.Memory before now = ⊥
UsageEnds status.ScriptTooLong before now = ⊥
UsageEnds (status.LogRefused n) before now = ⊥

-- how a run ends: the words are no command line, or they ask a job and it ends so; or memory ran out before they were
-- read
abbrev pub RunEnds : Status → Words → Outside → Outside → Type 0
RunEnds s words before now =
    (IsUsage (texts_of words) × UsageEnds s before now)
    ⊎ (((job : Job) × Asks (texts_of words) job × JobEnds s job before now)
    ⊎ ((s ≡ status.Memory) × StaysAsBefore before now))

-- the shelf was asked for two names, one after the other
abbrev pub GrewByBoth : Option (List (List ℕ)) → Option (List (List ℕ)) → List ℕ → List ℕ → Type 0
GrewByBoth before now first second =
    (mid : Option (List (List ℕ))) × GrewByName before mid first × GrewByName mid now second

-- the shelf, which has these files, was asked for the file; or, where the file was found to mean a knowledge base, for
-- the file and then for the log
abbrev pub AsksForLog : List ℕ → Choice → List ℕ → (List ℕ → Option (List ℕ)) → Option (List (List ℕ))
    → Option (List (List ℕ)) → Type 0
AsksForLog file c log files before now =
    GrewByName before now file
    ⊎ (((m : Meaning) × IfObservable (files file) (λ bytes. FileMeans c bytes m)) × GrewByBoth before now file log)

-- what a job asks the shelf for, which has these files: nothing where a file is made
abbrev pub AsksOf : Job → (List ℕ → Option (List ℕ)) → Option (List (List ℕ)) → Option (List (List ℕ)) → Type 0
AsksOf (consult file c budget logs) files before now = GrewByName before now file
AsksOf (check file c) files before now = GrewByName before now file
AsksOf (verify file c log) files before now = AsksForLog file c log files before now
AsksOf (make k n) files before now = KeptNames before now
AsksOf (summarise k n) files before now = KeptNames before now

-- the shelf was asked for nothing, or for what the job of the words asks it for
abbrev pub AsksForFile : Words → (List ℕ → Option (List ℕ)) → Option (List (List ℕ)) → Option (List (List ℕ)) → Type 0
AsksForFile words files before now =
    KeptNames before now ⊎ ((job : Job) × Asks (texts_of words) job × AsksOf job files before now)

-- what the log grew by is accepted over the ground problem of what the file means, as far as that is observable, by the
-- way in which the answers ended
abbrev pub IsAcceptedBy : Status → List ℕ → Choice → (List ℕ → Option (List ℕ)) → (old new : Option (List ℕ)) → Type 0
IsAcceptedBy s file c files old new = IfObservable (files file) (λ bytes. (m : Meaning) × FileMeans c bytes m
    × ((ended : Result Unit Stop) × (s ≡ ended_as ended) × LogsAccepted ended (base_of_meaning m) old new))

-- the log is as before, or it is kept and accepted
abbrev pub AcceptsLog : Status → List ℕ → Choice → Bool → (List ℕ → Option (List ℕ)) → (old new : Option (List ℕ))
    → Type 0
AcceptsLog s file c logs files old new = (new ≡ old) ⊎ ((logs ≡ true) × IsAcceptedBy s file c files old new)

-- the log is as before, or the words ask to consult about a file and to keep a log, and it is accepted
abbrev pub LogEnds : Status → Words → (List ℕ → Option (List ℕ)) → (old new : Option (List ℕ)) → Type 0
LogEnds s words files old new = (new ≡ old) ⊎ ((file : List ℕ) × (c : Choice) × (budget : Option ℕ)
    × Asks (texts_of words) (consult file c budget true) × IsAcceptedBy s file c files old new)
