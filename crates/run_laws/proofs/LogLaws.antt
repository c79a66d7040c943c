-- What is answered about a log that is verified comes exactly where it should, by elimination.
use Rattle.std.proofs.Common.{◌≡◌, ℕ, ◌≤◌, List, length, true, false, refl, ap, subst, arith}
use Rattle.std.proofs.Common.{Option, Some, None}
use Rattle.kb_logic.specs.Bases.{Base}
use Rattle.base_reader.specs.FileMeanings.{Choice, Meaning, base_of_meaning}
use Rattle.base_reader.specs.Laws.{HasOneMeaning}
use Rattle.command_words.specs.CommandLine.{Said, said_by}
use Rattle.command_words.specs.CommandLine as words
use Rattle.derivation_log.specs.Checks.{IsFirstBad}
use Rattle.derivation_log.specs.Laws.{OneAnswer}
use Rattle.derivation_log.specs.declared.claims.Claim.{Claim}
use Rattle.ground_core.specs.Problems.{ProblemState}
use Rattle.narrowed_bases.specs.Laws.{OneProblem}
use Rattle.verified_claims.specs.Verdicts.{IsAcceptedOver, IsFirstBadOver, IsVerdict, IsLogError}
use Rattle.verified_claims.specs.declared.verdicts.LogError.TheVariants as log_error
use Rattle.idp_cli.specs.Jobs.{consult, verify, AsksBy, NamesLog}
use Rattle.idp_cli.specs.Runs.{Words, Outside, RunEnds, VerificationEnds, LogIs, most_log_bytes}
use Rattle.run_laws.specs.Laws.{AskToVerify, AcceptedLogLaw, VerifiedLaw, RefusedLogLaw, BadEntryLaw}
use Rattle.run_laws.specs.Laws.{LongLogLaw, ShortLogLaw, LogPathLaw, TakingLaw, CommandLaw}
use Rattle.run_laws.proofs.Elimination.{told, done}
use Rattle.idp_cli.specs.declared.status.Status.{Status}
use Rattle.idp_cli.specs.declared.status.Status.TheVariants as status

-- the job of words that ask to verify
ends_of : (s : Status) (words : Words) (before now : Outside) (log : List ℕ) (m : Meaning)
    (a : AskToVerify words before log m) → RunEnds s words before now
    → VerificationEnds s a.file a.choice a.path before now
ends_of s words before now log m a ends = done s words before now (verify a.file a.choice a.path) a.asks ends

-- over its one ground problem a log is accepted, or has one first bad entry
module _ (answers : OneAnswer) (problems : OneProblem) (base : Base) (log : List ℕ) where
  both_answers : (claims : List Claim) (n : ℕ) → IsAcceptedOver base log claims → IsFirstBadOver base log n → ⊥
  both_answers claims n a b =
      (answers a.0 log).2 claims n a.2
      (subst (λ (p : ProblemState). IsFirstBad p log n) (problems base b.0 a.0 b.1 a.1) b.2)

  one_bad : (k n : ℕ) → IsFirstBadOver base log k → IsFirstBadOver base log n → k ≡ n
  one_bad k n a b =
      (answers b.0 log).1 k n
      (subst (λ (p : ProblemState). IsFirstBad p log k) (problems base a.0 b.0 a.1 b.1) a.2) b.2

module _ (one : HasOneMeaning) where
  -- what was found of the log's bytes over what the file means is so of them over what it means
  is_of : (So : Base → List ℕ → Type 0) (words : Words) (before : Outside) (log : List ℕ) (m : Meaning)
      (a : AskToVerify words before log m) → LogIs So a.file a.choice a.path before → So (base_of_meaning m) log
  is_of So words before log m a is =
      let means = told (before.files a.file) a.bytes _ a.held is.means in
      let same : is.meaning ≡ m = one a.choice a.bytes is.meaning m means a.means in
      let bytes : is.bytes ≡ log = told (before.files a.path) log _ a.log_held (is.are.told a.other) in
      subst (λ (b : List ℕ). So (base_of_meaning m) b) bytes
      (subst (λ (n : Meaning). So (base_of_meaning n) is.bytes) same is.so)

  -- the bytes that were read are the log's
  within_of : (So : Base → List ℕ → Type 0) (words : Words) (before : Outside) (log : List ℕ) (m : Meaning)
      (a : AskToVerify words before log m) → LogIs So a.file a.choice a.path before → length log ≤ most_log_bytes
  within_of So words before log m a is =
      subst (λ (b : List ℕ). length b ≤ most_log_bytes)
      (told (before.files a.path) log _ a.log_held (is.are.told a.other)) is.are.within

  pub verified_law : VerifiedLaw
  verified_law words before now log m a ends =
      let end = ends_of status.Done words before now log m a ends in
      let verdict = is_of (λ base bytes. IsVerdict base bytes end.0) words before log m a end.1 in
      (verdict.claims, verdict.accepted)

  pub bad_entry_law : BadEntryLaw
  bad_entry_law words before now log m n a ends =
      let end = ends_of (status.LogRefused n) words before now log m a ends in
      is_of (λ base bytes. IsLogError base bytes (log_error.Refused n)) words before log m a end.0

  pub short_log_law : ShortLogLaw
  short_log_law words before now log m a short ends =
      let end = ends_of status.ScriptTooLong words before now log m a ends in
      let long = told (before.files a.path) log _ a.log_held (end.0.1 a.other) in
      omega (arith, long, short)

  module _ (taking : TakingLaw) (command : CommandLaw) where
    -- a run that verifies a log, which is no longer than it may be, answers about it, unless it failed
    pub long_log_law : LongLogLaw
    long_log_law status.Done words before now log m a long ends =
        let end = ends_of status.Done words before now log m a ends in
        let short = within_of (λ base bytes. IsVerdict base bytes end.0) words before log m a end.1 in
        absurd (omega (arith, long, short))
    long_log_law (status.KbRefused k line) words before now log m a long ends =
        absurd (taking k line words before now (verify a.file a.choice a.path) a.file a.bytes m a.asks refl a.held
        a.means ends)
    long_log_law status.Usage words before now log m a long ends =
        absurd (command words before now (verify a.file a.choice a.path) a.asks ends)
    long_log_law status.ReadFault words before now log m a long ends = tt
    long_log_law status.WriteFault words before now log m a long ends = tt
    long_log_law status.Memory words before now log m a long ends = tt
    long_log_law status.ScriptTooLong words before now log m a long ends = refl
    long_log_law (status.LogRefused n) words before now log m a long ends =
        let end = ends_of (status.LogRefused n) words before now log m a ends in
        let short = within_of (λ base bytes. IsLogError base bytes (log_error.Refused n)) words before log m a end.0 in
        absurd (omega (arith, long, short))

    module _ (answers : OneAnswer) (problems : OneProblem) where
      pub accepted_log_law : AcceptedLogLaw
      accepted_log_law status.Done words before now log m claims a short accepted ends = refl
      accepted_log_law (status.KbRefused k line) words before now log m claims a short accepted ends =
          absurd (taking k line words before now (verify a.file a.choice a.path) a.file a.bytes m a.asks refl a.held
          a.means ends)
      accepted_log_law status.Usage words before now log m claims a short accepted ends =
          absurd (command words before now (verify a.file a.choice a.path) a.asks ends)
      accepted_log_law status.ReadFault words before now log m claims a short accepted ends = tt
      accepted_log_law status.WriteFault words before now log m claims a short accepted ends = tt
      accepted_log_law status.Memory words before now log m claims a short accepted ends = tt
      accepted_log_law status.ScriptTooLong words before now log m claims a short accepted ends =
          absurd (short_log_law words before now log m a short ends)
      accepted_log_law (status.LogRefused n) words before now log m claims a short accepted ends =
          absurd (both_answers answers problems (base_of_meaning m) log claims n accepted
          (bad_entry_law words before now log m n a ends))

      pub refused_log_law : RefusedLogLaw
      refused_log_law status.Done words before now log m n a short bad ends =
          let verified = verified_law words before now log m a ends in
          absurd (both_answers answers problems (base_of_meaning m) log verified.0 n verified.1 bad)
      refused_log_law (status.KbRefused k line) words before now log m n a short bad ends =
          absurd (taking k line words before now (verify a.file a.choice a.path) a.file a.bytes m a.asks refl a.held
          a.means ends)
      refused_log_law status.Usage words before now log m n a short bad ends =
          absurd (command words before now (verify a.file a.choice a.path) a.asks ends)
      refused_log_law status.ReadFault words before now log m n a short bad ends = tt
      refused_log_law status.WriteFault words before now log m n a short bad ends = tt
      refused_log_law status.Memory words before now log m n a short bad ends = tt
      refused_log_law status.ScriptTooLong words before now log m n a short bad ends =
          absurd (short_log_law words before now log m a short ends)
      refused_log_law (status.LogRefused k) words before now log m n a short bad ends =
          let same : k ≡ n = one_bad answers problems (base_of_meaning m) log k n
          (bad_entry_law words before now log m k a ends) bad in
          ap (λ (x : ℕ). status.LogRefused x) same

-- what is said and asks for a log names a file for it
named : (said : Said) (file : List ℕ) (c : Choice) (budget : Option ℕ) → AsksBy said (consult file c budget true)
    → (p : List ℕ) × NamesLog said p
named (words.consult f text None) file c budget asks = absurd (let clash : ⊥ = cc asks.3 in clash)
named (words.consult f text (Some path)) file c budget asks = (path, (refl, (budget, asks.2)))
named (words.check f) file c budget asks = absurd asks
named (words.verify f path) file c budget asks = absurd asks
named (words.generate kind number true) file c budget asks = absurd asks
named (words.generate kind number false) file c budget asks = absurd asks

-- and what names a file for a log asks for one
asked : (said : Said) (p : List ℕ) → NamesLog said p
    → (file : List ℕ) × (c : Choice) × (budget : Option ℕ) × AsksBy said (consult file c budget true)
asked (words.consult f text (Some path)) p names = (
  f.file,
  record { theory = f.theory; structure = f.structure },
  names.1.0,
  (refl, refl, names.1.1, refl),
)
asked (words.consult f text None) p names = absurd names
asked (words.check f) p names = absurd names
asked (words.verify f path) p names = absurd names
asked (words.generate kind number text) p names = absurd names

pub log_path_law : LogPathLaw
log_path_law words = (
  λ asks. let name = named asks.3.0 asks.0 asks.1 asks.2 asks.3.2 in (name.0, (asks.3.0, asks.3.1, name.1)),
  λ p is. let ask = asked is.0 p is.2 in (ask.0, ask.1, ask.2, (is.0, is.1, ask.3)),
)
