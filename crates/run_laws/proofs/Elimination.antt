-- The statuses come exactly where they should, by elimination.
use Rattle.std.proofs.Common.{◌≡◌, ℕ, ◌<◌, List, length, Bool, refl, sym, ◌∙◌, ap, subst, arith, Option, Some}
use Rattle.std.proofs.Common.{None, inl, inr}
use Rattle.kb_text.specs.declared.fault.K.{K}
use Rattle.kb_text.specs.declared.fault.KbFault.{KbFault}
use Rattle.base_reader.specs.FileMeanings.{Choice, Meaning, FileMeans}
use Rattle.base_reader.specs.Laws.{HasOneRefusal, MeansOrIsRefused}
use Rattle.idp_cli.specs.Jobs.{Job, consult, check, verify, make, summarise, file_of, Asks}
use Rattle.consultation.specs.Streams.{IfObservable}
use Rattle.idp_cli.specs.Files.{IsRefusedAt, line_of}
use Rattle.idp_cli.specs.Runs.{Words, texts_of, Outside, StaysAsBefore, ConsultationEnds, CheckEnds, VerificationEnds}
use Rattle.idp_cli.specs.Runs.{JobEnds, RunEnds}
use Rattle.run_laws.specs.Laws.{IsUnlessFailed, choice_of, UsageLaw, CommandLaw, RefusalLaw, TakingLaw, LengthLaw}
use Rattle.run_laws.specs.Laws.{ShortLaw, DoneLaw, CheckedLaw, MadeLaw, SummarisedLaw}
use Rattle.idp_cli.specs.Summaries.{no_choice}
use Rattle.generated_files.specs.Texts.{file_text}
use Rattle.idp_cli.specs.declared.status.Status.{Status}
use Rattle.idp_cli.specs.declared.status.Status.TheVariants as status
use Rattle.idp_cli.proofs.Asked.{one_job}

pub told : (o : Option (List ℕ)) (bytes : List ℕ) (P : List ℕ → Type 0) → o ≡ Some bytes → IfObservable o P → P bytes
told o bytes P is holds = let Q : Option (List ℕ) → Type 0 = λ o. IfObservable o P in subst Q is holds

stays : (job : Job) (before now : Outside) → StaysAsBefore before now → JobEnds status.Memory job before now
stays (consult file c budget logs) before now is = inl is
stays (check file c) before now is = is
stays (verify file c log) before now is = is
stays (make k n) before now is = is
stays (summarise k n) before now is = is

-- where the words ask a job, the run ended as that job, or memory ran out, which is an end of every job
pub done : (s : Status) (words : Words) (before now : Outside) (job : Job) → Asks (texts_of words) job
    → RunEnds s words before now → JobEnds s job before now
done s words before now job is (inl usage) = absurd (usage.0 job is)
done s words before now job is (inr (inl ends)) =
    subst (λ (j : Job). JobEnds s j before now) (one_job (texts_of words) ends.0 job ends.1 is) ends.2
done s words before now job is (inr (inr ends)) =
    subst (λ (t : Status). JobEnds t job before now) (sym ends.0) (stays job before now ends.1)

pub usage_law : UsageLaw
usage_law s words before now usage (inr (inl ends)) = absurd (usage ends.0 ends.1)
usage_law s words before now usage (inr (inr ends)) =
    subst (λ (t : Status). IsUnlessFailed status.Usage t) (sym ends.0) tt
usage_law status.Usage words before now usage (inl ends) = refl
usage_law status.WriteFault words before now usage (inl ends) = tt
usage_law status.Done words before now usage (inl ends) = absurd ends.1
usage_law (status.KbRefused k line) words before now usage (inl ends) = absurd ends.1
usage_law status.ReadFault words before now usage (inl ends) = tt
usage_law status.Memory words before now usage (inl ends) = tt
usage_law status.ScriptTooLong words before now usage (inl ends) = absurd ends.1
usage_law (status.LogRefused n) words before now usage (inl ends) = absurd ends.1

no_usage : (job : Job) (before now : Outside) → JobEnds status.Usage job before now → ⊥
no_usage (consult file c budget logs) before now ends = ends
no_usage (check file c) before now ends = ends
no_usage (verify file c log) before now ends = ends
no_usage (make k n) before now ends = ends
no_usage (summarise k n) before now ends = ends

pub command_law : CommandLaw
command_law words before now job is ends = no_usage job before now (done status.Usage words before now job is ends)

some_is : {A : Type 0} (a b : A) → Some a ≡ Some b → a ≡ b
some_is a b e = cc

none_is : {A : Type 0} (a : A) → None ≡ Some a → ⊥
none_is a e = cc

-- what is held of the file of a job
held_by : (before : Outside) (name file bytes : List ℕ) → Some name ≡ Some file → before.files file ≡ Some bytes
    → before.files name ≡ Some bytes
held_by before name file bytes of held = ap before.files (some_is name file of) ∙ held

pub made_law : MadeLaw
made_law status.Done words before now k n is ends = refl
made_law (status.KbRefused q line) words before now k n is ends =
    absurd (done (status.KbRefused q line) words before now (make k n) is ends)
made_law status.Usage words before now k n is ends = absurd (done status.Usage words before now (make k n) is ends)
made_law status.ReadFault words before now k n is ends = tt
made_law status.WriteFault words before now k n is ends = tt
made_law status.Memory words before now k n is ends = tt
made_law status.ScriptTooLong words before now k n is ends =
    absurd (done status.ScriptTooLong words before now (make k n) is ends)
made_law (status.LogRefused entry) words before now k n is ends =
    absurd (done (status.LogRefused entry) words before now (make k n) is ends)

module _ (one : HasOneRefusal) (never : MeansOrIsRefused) where
  -- no file is both refused and means something
  refused_or_taken : (c : Choice) (k : K) (line : ℕ) (bytes : List ℕ) (m : Meaning) → IsRefusedAt c k line bytes
      → FileMeans c bytes m → ⊥
  refused_or_taken c k line bytes m refused is = never c bytes m refused.0 is refused.1

  -- a file is refused in one way
  one_refusal : (c : Choice) (k k' : K) (line line' : ℕ) (bytes : List ℕ) → IsRefusedAt c k line bytes
      → IsRefusedAt c k' line' bytes
      → status.KbRefused k' line' ≡ status.KbRefused k line
  one_refusal c k k' line line' bytes h h' =
      let same : h'.0 ≡ h.0 = one c bytes h'.0 h.0 h'.1 h.1 in
      let cause : k' ≡ k = h'.2 ∙ (ap (λ (q : KbFault). q.cause) same ∙ sym h.2) in
      let at : line' ≡ line = h'.3 ∙ (ap (λ (q : KbFault). line_of q.place bytes) same ∙ sym h.3) in
      λ i. status.KbRefused (cause i) (at i)

  consultation_refused : (s : Status) (before now : Outside) (file bytes : List ℕ) (c : Choice) (budget : Option ℕ)
      (logs : Bool) (k : K) (line : ℕ) → before.files file ≡ Some bytes → IsRefusedAt c k line bytes
      → ConsultationEnds s file c budget logs before now → IsUnlessFailed (status.KbRefused k line) s
  consultation_refused status.Done before now file bytes c budget logs k line held refused ends =
      let taken = told (before.files file) bytes _ held ends.answers in
      absurd (refused_or_taken c k line bytes taken.0 refused taken.1)
  consultation_refused (status.KbRefused k' line') before now file bytes c budget logs k line held refused ends =
      one_refusal c k k' line line' bytes refused (told (before.files file) bytes _ held ends.0)
  consultation_refused status.Usage before now file bytes c budget logs k line held refused ends = absurd ends
  consultation_refused status.ReadFault before now file bytes c budget logs k line held refused ends = tt
  consultation_refused status.WriteFault before now file bytes c budget logs k line held refused ends = tt
  consultation_refused status.Memory before now file bytes c budget logs k line held refused ends = tt
  consultation_refused status.ScriptTooLong before now file bytes c budget logs k line held refused ends =
      let taken = told (before.files file) bytes _ held ends.answers in
      absurd (refused_or_taken c k line bytes taken.0 refused taken.1)
  consultation_refused (status.LogRefused n) before now file bytes c budget logs k line held refused ends = absurd ends

  check_refused : (s : Status) (before now : Outside) (file bytes : List ℕ) (c : Choice) (k : K) (line : ℕ)
      → before.files file ≡ Some bytes → IsRefusedAt c k line bytes → CheckEnds s file c before now
      → IsUnlessFailed (status.KbRefused k line) s
  check_refused status.Done before now file bytes c k line held refused ends =
      absurd (refused_or_taken c k line bytes ends.0 refused (told (before.files file) bytes _ held ends.1))
  check_refused (status.KbRefused k' line') before now file bytes c k line held refused ends =
      one_refusal c k k' line line' bytes refused (told (before.files file) bytes _ held ends.0)
  check_refused status.Usage before now file bytes c k line held refused ends = absurd ends
  check_refused status.ReadFault before now file bytes c k line held refused ends = tt
  check_refused status.WriteFault before now file bytes c k line held refused ends = tt
  check_refused status.Memory before now file bytes c k line held refused ends = tt
  check_refused status.ScriptTooLong before now file bytes c k line held refused ends = absurd ends
  check_refused (status.LogRefused n) before now file bytes c k line held refused ends = absurd ends

  verification_refused : (s : Status) (before now : Outside) (file bytes : List ℕ) (c : Choice) (log : List ℕ) (k : K)
      (line : ℕ) → before.files file ≡ Some bytes → IsRefusedAt c k line bytes
      → VerificationEnds s file c log before now → IsUnlessFailed (status.KbRefused k line) s
  verification_refused status.Done before now file bytes c log k line held refused ends =
      absurd (refused_or_taken c k line bytes ends.1.meaning refused
      (told (before.files file) bytes _ held ends.1.means))
  verification_refused (status.KbRefused k' line') before now file bytes c log k line held refused ends =
      one_refusal c k k' line line' bytes refused (told (before.files file) bytes _ held ends.0)
  verification_refused status.Usage before now file bytes c log k line held refused ends = absurd ends
  verification_refused status.ReadFault before now file bytes c log k line held refused ends = tt
  verification_refused status.WriteFault before now file bytes c log k line held refused ends = tt
  verification_refused status.Memory before now file bytes c log k line held refused ends = tt
  verification_refused status.ScriptTooLong before now file bytes c log k line held refused ends =
      absurd (refused_or_taken c k line bytes ends.0.0.0 refused (told (before.files file) bytes _ held ends.0.0.1))
  verification_refused (status.LogRefused n) before now file bytes c log k line held refused ends =
      absurd (refused_or_taken c k line bytes ends.0.meaning refused
      (told (before.files file) bytes _ held ends.0.means))

  refused_by : (s : Status) (before now : Outside) (job : Job) (file bytes : List ℕ) (k : K) (line : ℕ)
      → file_of job ≡ Some file → before.files file ≡ Some bytes → IsRefusedAt (choice_of job) k line bytes
      → JobEnds s job before now → IsUnlessFailed (status.KbRefused k line) s
  refused_by s before now (consult name c budget logs) file bytes k line of held refused ends =
      consultation_refused s before now name bytes c budget logs k line (held_by before name file bytes of held) refused
      ends
  refused_by s before now (check name c) file bytes k line of held refused ends =
      check_refused s before now name bytes c k line (held_by before name file bytes of held) refused ends
  refused_by s before now (verify name c log) file bytes k line of held refused ends =
      verification_refused s before now name bytes c log k line (held_by before name file bytes of held) refused ends
  refused_by s before now (make q n) file bytes k line of held refused ends = absurd (none_is file of)
  refused_by s before now (summarise q n) file bytes k line of held refused ends = absurd (none_is file of)

  pub refusal_law : RefusalLaw
  refusal_law s words before now job file bytes k line is of held refused ends =
      refused_by s before now job file bytes k line of held refused (done s words before now job is ends)

  taken_by : (k : K) (line : ℕ) (before now : Outside) (job : Job) (file bytes : List ℕ) (m : Meaning)
      → file_of job ≡ Some file → before.files file ≡ Some bytes → FileMeans (choice_of job) bytes m
      → JobEnds (status.KbRefused k line) job before now → ⊥
  taken_by k line before now (consult name c budget logs) file bytes m of held means ends =
      let held' = held_by before name file bytes of held in
      refused_or_taken c k line bytes m (told (before.files name) bytes _ held' ends.0) means
  taken_by k line before now (check name c) file bytes m of held means ends =
      let held' = held_by before name file bytes of held in
      refused_or_taken c k line bytes m (told (before.files name) bytes _ held' ends.0) means
  taken_by k line before now (verify name c log) file bytes m of held means ends =
      let held' = held_by before name file bytes of held in
      refused_or_taken c k line bytes m (told (before.files name) bytes _ held' ends.0) means
  taken_by k line before now (make q n) file bytes m of held means ends = none_is file of
  taken_by k line before now (summarise q n) file bytes m of held means ends = none_is file of

  pub taking_law : TakingLaw
  taking_law k line words before now job file bytes m is of held means ends =
      taken_by k line before now job file bytes m of held means
      (done (status.KbRefused k line) words before now job is ends)

  length_ends : (s : Status) (before now : Outside) (file bytes script : List ℕ) (c : Choice) (budget : Option ℕ)
      (logs : Bool) (m : Meaning)
      → before.files file ≡ Some bytes → FileMeans c bytes m → before.streams.script ≡ Some script
      → 67108864 < length script
      → ConsultationEnds s file c budget logs before now → IsUnlessFailed status.ScriptTooLong s
  length_ends status.Done before now file bytes script c budget logs m is means told' long ends =
      let answered = told (before.files file) bytes _ is ends.answers in
      let short = told before.streams.script script _ told' answered.2 in
      absurd (omega (arith, short.0, long))
  length_ends (status.KbRefused k line) before now file bytes script c budget logs m is means told' long ends =
      absurd (refused_or_taken c k line bytes m (told (before.files file) bytes _ is ends.0) means)
  length_ends status.Usage before now file bytes script c budget logs m is means told' long ends = absurd ends
  length_ends status.ReadFault before now file bytes script c budget logs m is means told' long ends = tt
  length_ends status.WriteFault before now file bytes script c budget logs m is means told' long ends = tt
  length_ends status.Memory before now file bytes script c budget logs m is means told' long ends = tt
  length_ends status.ScriptTooLong before now file bytes script c budget logs m is means told' long ends = refl
  length_ends (status.LogRefused n) before now file bytes script c budget logs m is means told' long ends = absurd ends

  pub length_law : LengthLaw
  length_law s words before now file bytes script c budget logs m is held means held' long ends =
      length_ends s before now file bytes script c budget logs m held means held' long
      (done s words before now (consult file c budget logs) is ends)

  pub short_law : ShortLaw
  short_law words before now file bytes script c budget logs is held held' short ends =
      let taken = told (before.files file) bytes _ held
      (done status.ScriptTooLong words before now (consult file c budget logs) is ends).answers in
      let answered = told before.streams.script script _ held' taken.2 in
      omega (arith, answered.0, short)

  pub done_law : DoneLaw
  done_law status.Done words before now file bytes script c budget logs m is held means held' short ends = refl
  done_law (status.KbRefused k line) words before now file bytes script c budget logs m is held means held' short ends =
      absurd (taking_law k line words before now (consult file c budget logs) file bytes m is refl held means ends)
  done_law status.Usage words before now file bytes script c budget logs m is held means held' short ends =
      absurd (command_law words before now (consult file c budget logs) is ends)
  done_law status.ReadFault words before now file bytes script c budget logs m is held means held' short ends = tt
  done_law status.WriteFault words before now file bytes script c budget logs m is held means held' short ends = tt
  done_law status.Memory words before now file bytes script c budget logs m is held means held' short ends = tt
  done_law status.ScriptTooLong words before now file bytes script c budget logs m is held means held' short ends =
      absurd (short_law words before now file bytes script c budget logs is held held' short ends)
  done_law (status.LogRefused n) words before now file bytes script c budget logs m is held means held' short ends =
      absurd (done (status.LogRefused n) words before now (consult file c budget logs) is ends)

  pub checked_law : CheckedLaw
  checked_law status.Done words before now file bytes c m is held means ends = refl
  checked_law (status.KbRefused k line) words before now file bytes c m is held means ends =
      absurd (taking_law k line words before now (check file c) file bytes m is refl held means ends)
  checked_law status.Usage words before now file bytes c m is held means ends =
      absurd (command_law words before now (check file c) is ends)
  checked_law status.ReadFault words before now file bytes c m is held means ends = tt
  checked_law status.WriteFault words before now file bytes c m is held means ends = tt
  checked_law status.Memory words before now file bytes c m is held means ends = tt
  checked_law status.ScriptTooLong words before now file bytes c m is held means ends =
      absurd (done status.ScriptTooLong words before now (check file c) is ends)
  checked_law (status.LogRefused n) words before now file bytes c m is held means ends =
      absurd (done (status.LogRefused n) words before now (check file c) is ends)

  pub summarised_law : SummarisedLaw
  summarised_law status.Done words before now k n m is means ends = refl
  summarised_law (status.KbRefused q line) words before now k n m is means ends =
      let said = done (status.KbRefused q line) words before now (summarise k n) is ends in
      absurd (refused_or_taken no_choice q line (file_text k n) m said.0 means)
  summarised_law status.Usage words before now k n m is means ends =
      absurd (done status.Usage words before now (summarise k n) is ends)
  summarised_law status.ReadFault words before now k n m is means ends = tt
  summarised_law status.WriteFault words before now k n m is means ends = tt
  summarised_law status.Memory words before now k n m is means ends = tt
  summarised_law status.ScriptTooLong words before now k n m is means ends =
      absurd (done status.ScriptTooLong words before now (summarise k n) is ends)
  summarised_law (status.LogRefused entry) words before now k n m is means ends =
      absurd (done (status.LogRefused entry) words before now (summarise k n) is ends)
