-- How a run ends that prints the file that is made of a number, or its summary.
use Rattle.std.proofs.Common.{◌≡◌, ℕ, List, length, refl, sym, ap, ◌∙◌, subst, codes, Option, Some, None, Ok}
use Rattle.std.proofs.Common.{inl, inr}
use Rattle.std.specs.Option.{IfSome}
use Rattle.kb_text.specs.declared.fault.K.{K}
use Rattle.kb_logic.specs.Bases.{Base}
use Rattle.kb_logic.specs.declared.elements.ExtInt.{ExtInt}
use Rattle.kb_logic.specs.declared.structures.Literal.{Literal}
use Rattle.kb_logic.specs.declared.structures.Structure.{Structure}
use Rattle.consult_text.specs.Replies.{IsRefusal}
use Rattle.consult_text.specs.States.{State, first_state}
use Rattle.consult_text.specs.declared.commands.Command.{Command}
use Rattle.consult_text.specs.declared.refusals.F.{F}
use Rattle.consult_text.specs.declared.refusals.F.TheVariants as refusal
use Rattle.consult_text.specs.declared.replies.Reply.{Reply}
use Rattle.consult_text.specs.declared.replies.Reply.TheVariants as reply
use Rattle.generated_files.specs.Texts.{file_text}
use Rattle.generated_files.specs.declared.kinds.Kind.{Kind}
use Rattle.consultation.specs.Consultation.{IsRightAnswer, state_left, reply_of}
use Rattle.consultation.specs.Streams.{streams}
use Rattle.consultation.specs.Turns.{RepliesTo}
use Rattle.consultation.specs.declared.said.Said.{Said}
use Rattle.consultation.specs.declared.said.Said.TheVariants.{Nothing, TooLong, Refused, Replied}
use Rattle.base_reader.specs.Readings.{meaning_of}
use Rattle.consult_base.specs.Opened.{Opened, base_of}
use Rattle.idp_cli.specs.Files.{IsRefusedAt, Takes}
use Rattle.idp_cli.specs.Printing.{PrintsRefusal, PrintsText}
use Rattle.idp_cli.specs.Runs.{OnOutput, SummaryEnds, TextEnds}
use Rattle.idp_cli.specs.Summaries.{AnswersQuestions, FileAnswers, no_choice, summary_text}
use Rattle.idp_cli.specs.declared.status.Status.{Status}
use Rattle.idp_cli.specs.declared.status.Status.TheVariants as status

-- the line has this right answer, which leaves the state t
abbrev pub HasReply : Base → State → List ℕ → Reply → State → Type 0
HasReply kb s line r t = (c : Command) × IsRightAnswer kb s line (Replied c r) × (t ≡ state_left kb s (Replied c r))

some_is : {A : Type 0} (a b : A) → Some a ≡ Some b → a ≡ b
some_is a b e = cc

-- where the reply to a line refuses nothing, a command asked for it
pub reply_is : (kb : Base) (s t : State) (line : List ℕ) (r : Reply) → (IsRefusal r → ⊥)
    → RepliesTo kb s line (Some r) t → HasReply kb s line r t
reply_is kb s t line r fine replies = by_said replies.said replies.right replies.reply replies.leaves
  where
    refuses : (f : F) → r ≡ reply.Refused f → ⊥
    refuses f same = fine (subst IsRefusal (sym same) tt)

    none : Some r ≡ None → ⊥
    none e = cc

    by_said : (said : Said) → IsRightAnswer kb s line said → Some r ≡ reply_of said → t ≡ state_left kb s said
        → HasReply kb s line r t
    by_said Nothing right same leaves = absurd (none same)
    by_said TooLong right same leaves = absurd (refuses refusal.LineTooLong (some_is r _ same))
    by_said (Refused f) right same leaves = absurd (refuses f (some_is r _ same))
    by_said (Replied c q) right same leaves =
        subst (λ (q : Reply). IsRightAnswer kb s line (Replied c q) → t ≡ state_left kb s (Replied c q)
        → HasReply kb s line r t) (some_is r q same) (λ right leaves. (c, right, leaves)) right leaves

-- both questions are answered, one after the other
pub both_answered : (kb : Base) (s t u : State) (forced : List Literal) (least : ExtInt) (model : Structure)
    → s ≡ first_state None → RepliesTo kb s (codes "propagate.") (Some (reply.Forced forced)) t
    → RepliesTo kb t (codes "minimize cost.") (Some (reply.Minimum least model)) u → AnswersQuestions kb forced least
both_answered kb s t u forced least model begins propagates minimizes =
    let first : List ℕ = codes "propagate." in
    let second : List ℕ = codes "minimize cost." in
    let P : State → Type 0 = λ s. RepliesTo kb s first (Some (reply.Forced forced)) t in
    let one = reply_is kb (first_state None) t first (reply.Forced forced) (λ no. no) (subst P begins propagates) in
    let two = reply_is kb t u second (reply.Minimum least model) (λ no. no) minimizes in
    let said : Said = Replied two.0 (reply.Minimum least model) in
    record {
      propagate = one.0;
      minimize = two.0;
      model = model;
      state = u;
      right = (
        one.1,
        (
          subst (λ s. IsRightAnswer kb s second said) one.2 two.1,
          two.2 ∙ ap (λ s. state_left kb s said) one.2,
        ),
      );
    }

-- a session on the knowledge base answered both
pub both_found : (kb kb0 kb1 : Opened) (s t u : State) (found : Option ℕ) (value : Option ExtInt) (count : ℕ)
    (least : ExtInt) → kb0 ≡ kb → kb1 ≡ kb0 → s ≡ first_state None → found ≡ Some count → value ≡ Some least
    → IfSome found (λ count. (ls : List Literal) × (count ≡ length ls)
    × RepliesTo (base_of kb0) s (codes "propagate.") (Some (reply.Forced ls)) t)
    → IfSome value (λ v. (m : Structure)
    × RepliesTo (base_of kb1) t (codes "minimize cost.") (Some (reply.Minimum v m)) u)
    → (ls : List Literal) × (count ≡ length ls) × AnswersQuestions (base_of kb) ls least
both_found kb kb0 kb1 s t u found value count least opened kept begins is_found is_value propagates minimizes =
    let P : Option ℕ → Type 0 = λ o. IfSome o (λ count. (ls : List Literal) × (count ≡ length ls)
    × RepliesTo (base_of kb0) s (codes "propagate.") (Some (reply.Forced ls)) t) in
    let Q : Option ExtInt → Type 0 = λ o. IfSome o (λ v. (m : Structure)
    × RepliesTo (base_of kb1) t (codes "minimize cost.") (Some (reply.Minimum v m)) u) in
    let first = subst P is_found propagates in
    let second = subst Q is_value minimizes in (
      first.0,
      first.1,
      both_answered (base_of kb) s t u first.0 least second.0 begins
          (subst (λ (k : Opened). RepliesTo (base_of k) s (codes "propagate.") (Some (reply.Forced first.0)) t) opened
          first.2)
          (subst (λ (k : Opened). RepliesTo (base_of k) t (codes "minimize cost.")
          (Some (reply.Minimum least second.0)) u) (kept ∙ opened) second.1),
    )

-- a text was printed, or could not be printed whole
pub text_ends : (s : Status) (text : List ℕ) (old new : Option (List ℕ)) (before now : ℕ)
    → PrintsText s text old new before now → OnOutput (TextEnds s text) old new before now
text_ends status.Done text old new before now prints = λ files shelf_faults script script_faults log log_faults.
    record {
      shelf = refl;
      faults = record { script = refl; out = prints.0; log = refl };
      script = refl;
      log = refl;
      out = prints.1;
    }
text_ends status.WriteFault text old new before now prints = λ files shelf_faults script script_faults log log_faults.
    record {
      shelf = refl;
      script_faults = refl;
      log_faults = refl;
      fault = prints.0;
      script = refl;
      log = refl;
      out = prints.1;
    }
text_ends status.Memory text old new before now prints = λ files shelf_faults script script_faults log log_faults. (
  refl,
  λ i. streams script script_faults (prints.1 i) (prints.0 i) log log_faults,
)
text_ends status.Usage text old new before now prints = absurd prints
text_ends status.ReadFault text old new before now prints = absurd prints
text_ends status.ScriptTooLong text old new before now prints = absurd prints
text_ends (status.KbRefused k line) text old new before now prints = absurd prints
text_ends (status.LogRefused n) text old new before now prints = absurd prints

-- so was the summary
pub summary_ends : (s : Status) (k : Kind) (n : ℕ) (forced : List Literal) (least : ExtInt) (old new : Option (List ℕ))
    (before now : ℕ) → FileAnswers (file_text k n) forced least
    → PrintsText s (summary_text k n (length forced) least) old new before now
    → OnOutput (SummaryEnds s k n) old new before now
summary_ends status.Done k n forced least old new before now answers prints =
    λ files shelf_faults script script_faults log log_faults. (
      forced,
      least,
      answers,
      record {
        shelf = refl;
        faults = record { script = refl; out = prints.0; log = refl };
        script = refl;
        log = refl;
        out = prints.1;
      },
    )
summary_ends status.WriteFault k n forced least old new before now answers prints =
    λ files shelf_faults script script_faults log log_faults. inr (
      forced,
      least,
      answers,
      record {
        shelf = refl;
        script_faults = refl;
        log_faults = refl;
        fault = prints.0;
        script = refl;
        log = refl;
        out = prints.1;
      },
    )
summary_ends status.Memory k n forced least old new before now answers prints =
    λ files shelf_faults script script_faults log log_faults. (
      refl,
      λ i. streams script script_faults (prints.1 i) (prints.0 i) log log_faults,
    )
summary_ends status.Usage k n forced least old new before now answers prints = absurd prints
summary_ends status.ReadFault k n forced least old new before now answers prints = absurd prints
summary_ends status.ScriptTooLong k n forced least old new before now answers prints = absurd prints
summary_ends (status.KbRefused q line) k n forced least old new before now answers prints = absurd prints
summary_ends (status.LogRefused entry) k n forced least old new before now answers prints = absurd prints

-- what is said of a knowledge base, where it is what the file means
file_answers : (kb : Opened) (bytes : List ℕ) (forced : List Literal) (least : ExtInt) → Takes no_choice (Ok kb) bytes
    → AnswersQuestions (base_of kb) forced least → FileAnswers bytes forced least
file_answers kb bytes forced least means answers =
    record { meaning = meaning_of kb; means = means; answers = answers }

-- the text is the summary of a knowledge base
abbrev pub IsSummaryText : Kind → ℕ → Opened → List ℕ → Type 0
IsSummaryText k n kb text =
    (forced : List Literal) × (least : ExtInt) × AnswersQuestions (base_of kb) forced least
    × (text ≡ summary_text k n (length forced) least)

-- so the summary of the file was printed, where the file means that knowledge base
pub summarised : (s : Status) (k : Kind) (n : ℕ) (kb : Opened) (text : List ℕ) (old new : Option (List ℕ))
    (before now : ℕ) → Takes no_choice (Ok kb) (file_text k n) → IsSummaryText k n kb text
    → PrintsText s text old new before now → OnOutput (SummaryEnds s k n) old new before now
summarised s k n kb text old new before now means said prints =
    summary_ends s k n said.0 said.1 old new before now (file_answers kb (file_text k n) said.0 said.1 means said.2)
    (subst (λ (t : List ℕ). PrintsText s t old new before now) said.3 prints)

-- the file was refused, and that was said, or could not be said whole
pub refusal_ends : (s : Status) (k : Kind) (n : ℕ) (q : K) (line : ℕ) (old new : Option (List ℕ)) (before now : ℕ)
    → IsRefusedAt no_choice q line (file_text k n) → PrintsRefusal s q line old new before now
    → OnOutput (SummaryEnds s k n) old new before now
refusal_ends (status.KbRefused cause place) k n q line old new before now is prints =
    let P : K → ℕ → Type 0 = λ c l. OnOutput (SummaryEnds (status.KbRefused c l) k n) old new before now in
    let said : P q line = λ files shelf_faults script script_faults log log_faults. (
      is,
      record {
        shelf = refl;
        faults = record { script = refl; out = prints.0; log = refl };
        script = refl;
        log = refl;
        out = prints.3;
      },
    ) in
    subst (λ (c : K). P c place) (sym prints.1) (subst (λ (l : ℕ). P q l) (sym prints.2) said)
refusal_ends status.WriteFault k n q line old new before now is prints =
    λ files shelf_faults script script_faults log log_faults. inl (
      q,
      line,
      is,
      record {
        shelf = refl;
        script_faults = refl;
        log_faults = refl;
        fault = prints.0;
        script = refl;
        log = refl;
        out = prints.1;
      },
    )
refusal_ends status.Memory k n q line old new before now is prints =
    λ files shelf_faults script script_faults log log_faults. (
      refl,
      λ i. streams script script_faults (prints.1 i) (prints.0 i) log log_faults,
    )
refusal_ends status.Done k n q line old new before now is prints = absurd prints
refusal_ends status.Usage k n q line old new before now is prints = absurd prints
refusal_ends status.ReadFault k n q line old new before now is prints = absurd prints
refusal_ends status.ScriptTooLong k n q line old new before now is prints = absurd prints
refusal_ends (status.LogRefused entry) k n q line old new before now is prints = absurd prints
