-- How a job about a file ends, from how the file is opened and what is done with it.
use Rattle.std.proofs.Common.{◌≡◌, ◌⊎◌, ℕ, List, Bool, true, false, refl, sym, subst, Option, Some, None, Result, Ok}
use Rattle.std.proofs.Common.{Err, inl, inr}
use Rattle.std.specs.Bool.{OnTrue, OnFalse}
use Rattle.kb_logic.specs.Bases.{Base}
use Rattle.consult_text.specs.States.{first_state}
use Rattle.base_reader.specs.FileMeanings.{Choice, Meaning, FileMeans, base_of_meaning}
use Rattle.consultation.specs.Accepted.{LogsAccepted}
use Rattle.consultation.specs.Answering.{AnswersCommands, OpensAndAnswers}
use Rattle.consultation.specs.Streams.{IfObservable, streams}
use Rattle.consultation.specs.declared.stop.Stop.{Stop}
use Rattle.consultation.specs.declared.stop.Stop.TheVariants as stop
use Rattle.idp_cli.specs.Printing.{PrintsText}
use Rattle.idp_cli.specs.Runs.{Outside, outside, AnswersByFile, ConsultationEnds, CheckEnds, FileFails, IsMeantBy}
use Rattle.idp_cli.specs.Runs.{OnFiles, ended_as, structure_text, AcceptsLog, LogEnds, Words, texts_of}
use Rattle.idp_cli.specs.Jobs.{consult, Asks}
use Rattle.idp_cli.specs.declared.status.Status.{Status}
use Rattle.idp_cli.specs.declared.status.Status.TheVariants as status

with_meaning : (file : Option (List ℕ)) (c : Choice) (m : Meaning) (P : Meaning → Type 0)
    → IfObservable file (λ bytes. FileMeans c bytes m) → P m
    → IfObservable file (λ bytes. (m : Meaning) × FileMeans c bytes m × P m)
with_meaning None c m P is holds = tt
with_meaning (Some bytes) c m P is holds = (m, is, holds)

-- what the log grew by is accepted, where one is kept, and else it is as before
pub log_accepted : (logs logs' : Bool) (kb kb' : Base) (result : Result Unit Stop) (old new : Option (List ℕ))
    → logs' ≡ logs → kb' ≡ kb → OnTrue logs' (LogsAccepted result kb' old new) → OnFalse logs' (new ≡ old)
    → (new ≡ old) ⊎ ((logs ≡ true) × LogsAccepted result kb old new)
log_accepted logs logs' kb kb' result old new same_logs same_kb accepted none =
    subst (λ (b : Bool). (new ≡ old) ⊎ ((b ≡ true) × LogsAccepted result kb old new)) same_logs
    (subst (λ (k : Base). (new ≡ old) ⊎ ((logs' ≡ true) × LogsAccepted result k old new)) same_kb
    (by logs' accepted none))
  where
    by : (b : Bool) → OnTrue b (LogsAccepted result kb' old new) → OnFalse b (new ≡ old)
        → (new ≡ old) ⊎ ((b ≡ true) × LogsAccepted result kb' old new)
    by true accepted none = inr (refl, accepted)
    by false accepted none = inl none

-- so it is by the file
pub accepts_log : (file : List ℕ) (c : Choice) (m : Meaning) (logs : Bool) (files : List ℕ → Option (List ℕ))
    (result : Result Unit Stop) (old new : Option (List ℕ)) → IfObservable (files file) (λ bytes. FileMeans c bytes m)
    → (new ≡ old) ⊎ ((logs ≡ true) × LogsAccepted result (base_of_meaning m) old new)
    → AcceptsLog (ended_as result) file c logs files old new
accepts_log file c m logs files result old new is (inl same) = inl same
accepts_log file c m logs files result old new is (inr kept) = inr (
  kept.0,
  with_meaning (files file) c m (λ (n : Meaning). (ended : Result Unit Stop) × (ended_as result ≡ ended_as ended)
      × LogsAccepted ended (base_of_meaning n) old new) is (result, refl, kept.1),
)

-- and by the words
pub log_ends : (s : Status) (words : Words) (file : List ℕ) (c : Choice) (budget : Option ℕ) (logs : Bool)
    (files : List ℕ → Option (List ℕ)) (old new : Option (List ℕ))
    → Asks (texts_of words) (consult file c budget logs) → AcceptsLog s file c logs files old new
    → LogEnds s words files old new
log_ends s words file c budget logs files old new asks (inl same) = inl same
log_ends s words file c budget logs files old new asks (inr kept) = inr (
  file,
  c,
  budget,
  subst (λ (b : Bool). Asks (texts_of words) (consult file c budget b)) kept.0 asks,
  kept.1,
)

-- without a knowledge base a consultation ends so
pub consultation_fails : (s : Status) (file : List ℕ) (c : Choice) (budget : Option ℕ) (logs : Bool)
    (before now : Outside) → FileFails s file c before now → ConsultationEnds s file c budget logs before now
consultation_fails (status.KbRefused k line) file c budget logs before now fails = fails
consultation_fails status.ReadFault file c budget logs before now fails = inl fails
consultation_fails status.WriteFault file c budget logs before now fails = inl fails
consultation_fails status.Memory file c budget logs before now fails = inl fails
consultation_fails status.Done file c budget logs before now fails = absurd fails
consultation_fails status.Usage file c budget logs before now fails = absurd fails
consultation_fails status.ScriptTooLong file c budget logs before now fails = absurd fails
consultation_fails (status.LogRefused n) file c budget logs before now fails = absurd fails

-- and so does a check
pub check_fails : (s : Status) (file : List ℕ) (c : Choice) (before now : Outside) → FileFails s file c before now
    → CheckEnds s file c before now
check_fails (status.KbRefused k line) file c before now fails = fails
check_fails status.ReadFault file c before now fails = fails
check_fails status.WriteFault file c before now fails = inl fails
check_fails status.Memory file c before now fails = fails
check_fails status.Done file c before now fails = absurd fails
check_fails status.Usage file c before now fails = absurd fails
check_fails status.ScriptTooLong file c before now fails = absurd fails
check_fails (status.LogRefused n) file c before now fails = absurd fails

module _ (file : List ℕ) (c : Choice) (m : Meaning) (budget : Option ℕ) (logs : Bool) (before now : Outside)
    (shelf : now.shelf_faults ≡ before.shelf_faults) (is : IsMeantBy m file c before) where
  by_file : (result : Result Unit Stop)
      → AnswersCommands logs result (base_of_meaning m) (first_state budget) before.streams now.streams
      → AnswersByFile result file c budget logs before now
  by_file result ends =
      record { shelf = shelf; reason = ends.0; answers = with_meaning (before.files file) c m _ is ends.1 }

  answered_ends : (result : Result Unit Stop)
      → AnswersCommands logs result (base_of_meaning m) (first_state budget) before.streams now.streams
      → ConsultationEnds (ended_as result) file c budget logs before now
  answered_ends (Ok x) ends = by_file (Ok tt) ends
  answered_ends (Err stop.ReadFault) ends = inr (by_file (Err stop.ReadFault) ends)
  answered_ends (Err stop.WriteFault) ends = inr (inl (by_file (Err stop.WriteFault) ends))
  answered_ends (Err stop.LogFault) ends = inr (inr (by_file (Err stop.LogFault) ends))
  answered_ends (Err stop.Memory) ends = inr (by_file (Err stop.Memory) ends)
  answered_ends (Err stop.ScriptTooLong) ends = by_file (Err stop.ScriptTooLong) ends

  -- the commands were answered, or memory ran out before that
  pub consultation_ends : (result : Result Unit Stop)
      → OpensAndAnswers logs result (base_of_meaning m) (first_state budget) before.streams now.streams
      → ConsultationEnds (ended_as result) file c budget logs before now
  consultation_ends result (inl wanting) =
      subst (λ (r : Result Unit Stop). ConsultationEnds (ended_as r) file c budget logs before now) (sym wanting.0)
      (inl (shelf, wanting.1))
  consultation_ends result (inr ends) = answered_ends result ends

-- the structure was printed, or could not be printed whole
pub check_ends : (s : Status) (file : List ℕ) (c : Choice) (m : Meaning) (files files' : List ℕ → Option (List ℕ))
    (before now : ℕ) (old new : Option (List ℕ)) (faults faults' : ℕ) → now ≡ before
    → IfObservable (files file) (λ bytes. FileMeans c bytes m) → PrintsText s (structure_text m) old new faults faults'
    → OnFiles (CheckEnds s file c) (outside files before) (outside files' now) old new faults faults'
check_ends status.Done file c m files files' before now old new faults faults' shelf is prints =
    λ script script_faults log log_faults. (
      m,
      is,
      record {
        shelf = shelf;
        faults = record { script = refl; out = prints.0; log = refl };
        script = refl;
        log = refl;
        out = prints.1;
      },
    )
check_ends status.WriteFault file c m files files' before now old new faults faults' shelf is prints =
    λ script script_faults log log_faults. inr (
      m,
      is,
      record {
        shelf = shelf;
        script_faults = refl;
        log_faults = refl;
        fault = prints.0;
        script = refl;
        log = refl;
        out = prints.1;
      },
    )
check_ends status.Memory file c m files files' before now old new faults faults' shelf is prints =
    λ script script_faults log log_faults.
    (shelf, λ i. streams script script_faults (prints.1 i) (prints.0 i) log log_faults)
check_ends status.ReadFault file c m files files' before now old new faults faults' shelf is prints = absurd prints
check_ends status.Usage file c m files files' before now old new faults faults' shelf is prints = absurd prints
check_ends status.ScriptTooLong file c m files files' before now old new faults faults' shelf is prints = absurd prints
check_ends (status.KbRefused k line) file c m files files' before now old new faults faults' shelf is prints =
    absurd prints
check_ends (status.LogRefused n) file c m files files' before now old new faults faults' shelf is prints =
    absurd prints
