-- How the verification of a log ends, from how the log is read and what is printed of it.
use Rattle.std.proofs.Common.{◌≡◌, ◌≢◌, ◌⊎◌, ◌≤◌, ◌∙◌, ℕ, List, length, refl, sym, subst, Option, Some, None, Err}
use Rattle.std.proofs.Common.{inl, inr}
use Rattle.std.specs.Io.KnownBytes.{Appends}
use Rattle.kb_io.specs.Outside.{KeptNumber, Rose}
use Rattle.kb_io.specs.ReadWrite.{AppendsPrefix}
use Rattle.base_reader.specs.FileMeanings.{Choice, Meaning, FileMeans, base_of_meaning}
use Rattle.consultation.specs.Streams.{IfObservable, Streams, streams}
use Rattle.kb_logic.specs.Bases.{Base}
use Rattle.verified_claims.specs.Verdicts.{IsVerdict, IsLogError}
use Rattle.verified_claims.specs.declared.verdicts.LogError.TheVariants as log_error
use Rattle.idp_cli.specs.Files.{log_refusal_text}
use Rattle.idp_cli.specs.Runs.{Outside, outside, LogIs, OnFiles, VerificationEnds, FileFails, most_log_bytes}
use Rattle.idp_cli.specs.Printing.{PrintsLogRefusal, PrintsText}
use Rattle.idp_cli.specs.Verifying.{PrintsAnswer, ReadsLog}
use Rattle.idp_cli.specs.declared.status.Status.{Status}
use Rattle.idp_cli.specs.declared.status.Status.TheVariants as status

-- without a knowledge base a verification ends so
pub verification_fails : (s : Status) (file : List ℕ) (c : Choice) (log : List ℕ) (before now : Outside)
    → FileFails s file c before now → VerificationEnds s file c log before now
verification_fails (status.KbRefused k line) file c log before now fails = fails
verification_fails status.ReadFault file c log before now fails = fails
verification_fails status.WriteFault file c log before now fails = inl fails
verification_fails status.Memory file c log before now fails = fails
verification_fails status.Done file c log before now fails = absurd fails
verification_fails status.Usage file c log before now fails = absurd fails
verification_fails status.ScriptTooLong file c log before now fails = absurd fails
verification_fails (status.LogRefused n) file c log before now fails = absurd fails

-- what is observable after the file was read was so before
told_before : (files : List ℕ → Option (List ℕ)) (now : Option (List ℕ)) (file log : List ℕ) (P : List ℕ → Type 0)
    → (log ≢ file → now ≡ files log) → IfObservable now P → log ≢ file → IfObservable (files log) P
told_before files now file log P same is other =
    subst (λ (o : Option (List ℕ)). IfObservable o P) (same other) is

module _ (file : List ℕ) (c : Choice) (log : List ℕ) (m : Meaning) (files files' : List ℕ → Option (List ℕ))
    (told : Option (List ℕ)) (before now : ℕ) (old : Option (List ℕ)) (faults : ℕ)
    (is : IfObservable (files file) (λ bytes. FileMeans c bytes m)) (same : log ≢ file → told ≡ files log) where
  -- the log could not be read
  pub unread_ends : (s : Status) → ReadsLog (Err s) told before now
      → OnFiles (VerificationEnds s file c log) (outside files before) (outside files' now) old old faults faults
  unread_ends status.ScriptTooLong reads = λ script script_faults log' log_faults.
      (((m, is), told_before files told file log _ same reads.1), (reads.0, refl))
  unread_ends status.ReadFault reads = λ script script_faults log' log_faults. (reads, refl)
  unread_ends status.Memory reads = λ script script_faults log' log_faults. (reads, refl)
  unread_ends status.Done reads = absurd reads
  unread_ends status.WriteFault reads = absurd reads
  unread_ends status.Usage reads = absurd reads
  unread_ends (status.KbRefused k line) reads = absurd reads
  unread_ends (status.LogRefused n) reads = absurd reads

  module _ (bytes : List ℕ) (within : length bytes ≤ most_log_bytes) (shelf : now ≡ before)
      (read : IfObservable told (λ t. bytes ≡ t)) where
    -- what is so of the log's bytes
    is_so : (So : Base → List ℕ → Type 0) (s : Streams) → So (base_of_meaning m) bytes
        → LogIs So file c log (outside files before s)
    is_so So s holds = record {
      meaning = m;
      means = is;
      bytes = bytes;
      are = record { within = within; told = told_before files told file log _ same read };
      so = holds;
    }

    -- the verdict or the log's refusal could not be printed whole
    part_ends : (new : Option (List ℕ)) (faults' : ℕ) → Rose faults faults'
        → ((text : List ℕ) × IsVerdict (base_of_meaning m) bytes text × AppendsPrefix old new text)
        ⊎ ((n : ℕ) × IsLogError (base_of_meaning m) bytes (log_error.Refused n)
        × AppendsPrefix old new (log_refusal_text n))
        → OnFiles (VerificationEnds status.WriteFault file c log) (outside files before) (outside files' now) old new
        faults faults'
    part_ends new faults' rose (inl verdict) = λ script script_faults log' log_faults. inr (inl (
      verdict.0,
      is_so _ _ verdict.1,
      record {
        shelf = shelf;
        script_faults = refl;
        log_faults = refl;
        fault = rose;
        script = refl;
        log = refl;
        out = verdict.2;
      },
    ))
    part_ends new faults' rose (inr refusal) = λ script script_faults log' log_faults. inr (inr (
      refusal.0,
      (
        is_so _ _ refusal.1,
        record {
          shelf = shelf;
          script_faults = refl;
          log_faults = refl;
          fault = rose;
          script = refl;
          log = refl;
          out = refusal.2;
        },
      ),
    ))

    -- the log was read, and the verdict or its refusal was printed, or could not be printed whole
    pub answer_ends : (s : Status) (new : Option (List ℕ)) (faults' : ℕ)
        → PrintsAnswer s (base_of_meaning m) bytes old new faults faults'
        → OnFiles (VerificationEnds s file c log) (outside files before) (outside files' now) old new faults faults'
    answer_ends status.Done new faults' prints = λ script script_faults log' log_faults. (
      prints.1.0,
      is_so _ _ prints.1.1,
      record {
        shelf = shelf;
        faults = record { script = refl; out = prints.0; log = refl };
        script = refl;
        log = refl;
        out = prints.1.2;
      },
    )
    answer_ends (status.LogRefused n) new faults' prints = λ script script_faults log' log_faults. (
      is_so _ _ prints.1,
      record {
        shelf = shelf;
        faults = record { script = refl; out = prints.0; log = refl };
        script = refl;
        log = refl;
        out = prints.2;
      },
    )
    answer_ends status.WriteFault new faults' prints = part_ends new faults' prints.0 prints.1
    answer_ends status.Memory new faults' prints = λ script script_faults log' log_faults.
        (shelf, λ i. streams script script_faults (prints.1 i) (prints.0 i) log' log_faults)
    answer_ends status.ReadFault new faults' prints = absurd prints
    answer_ends status.Usage new faults' prints = absurd prints
    answer_ends status.ScriptTooLong new faults' prints = absurd prints
    answer_ends (status.KbRefused k line) new faults' prints = absurd prints

-- an entry of the log is no step, and that was printed, or could not be printed whole
pub refusal_answers : (s : Status) (n : ℕ) (base : Base) (log : List ℕ) (old new : Option (List ℕ)) (before now : ℕ)
    → IsLogError base log (log_error.Refused n) → PrintsLogRefusal s n old new before now
    → PrintsAnswer s base log old new before now
refusal_answers (status.LogRefused entry) n base log old new before now bad prints =
    let P : ℕ → Type 0 = λ e. IsLogError base log (log_error.Refused e) × Appends old new (log_refusal_text e) in
    let both : P entry = subst P (sym prints.1) (bad, prints.2) in
    (prints.0, both.0, both.1)
refusal_answers status.WriteFault n base log old new before now bad prints = (prints.0, inr (n, bad, prints.1))
refusal_answers status.Memory n base log old new before now bad prints = prints
refusal_answers status.Done n base log old new before now bad prints = absurd prints
refusal_answers status.ReadFault n base log old new before now bad prints = absurd prints
refusal_answers status.Usage n base log old new before now bad prints = absurd prints
refusal_answers status.ScriptTooLong n base log old new before now bad prints = absurd prints
refusal_answers (status.KbRefused k line) n base log old new before now bad prints = absurd prints

-- the verdict is printed, or could not be printed whole
pub verdict_answers : (s : Status) (base : Base) (log text : List ℕ) (old new : Option (List ℕ)) (before now : ℕ)
    → IsVerdict base log text → PrintsText s text old new before now → PrintsAnswer s base log old new before now
verdict_answers status.Done base log text old new before now is prints = (prints.0, (text, is, prints.1))
verdict_answers status.WriteFault base log text old new before now is prints = (prints.0, inl (text, is, prints.1))
verdict_answers status.Memory base log text old new before now is prints = prints
verdict_answers status.ReadFault base log text old new before now is prints = absurd prints
verdict_answers status.Usage base log text old new before now is prints = absurd prints
verdict_answers status.ScriptTooLong base log text old new before now is prints = absurd prints
verdict_answers (status.KbRefused k line) base log text old new before now is prints = absurd prints
verdict_answers (status.LogRefused n) base log text old new before now is prints = absurd prints

-- what two calls keep, both keep
pub kept_by_both : (first second third : Option ℕ) → KeptNumber first second → KeptNumber second third
    → KeptNumber first third
kept_by_both first second None h i = tt
kept_by_both first None (Some n) h i = absurd i
kept_by_both None (Some m) (Some n) h i = absurd h
kept_by_both (Some k) (Some m) (Some n) h i = i ∙ h
