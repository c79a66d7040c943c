-- Right answers, one after another.
use Rattle.std.proofs.Common.{◌≡◌, ℕ, ◌+◌, List, [], ◌∷◌, ◌++◌, length, refl, sym, ◌∙◌, ap, subst, arith}
use Rattle.std.proofs.Common.{append_assoc, Bool, true, false, Option}
use Rattle.std.proofs.lemmas.List.Concat.{flat_map-append}
use Rattle.std.proofs.lemmas.List.{append-nil}
use Rattle.std.specs.Io.KnownBytes.{Appends}
use Rattle.kb_io.proofs.KnownBytes.{appends_more, appends_none}
use Rattle.kb_logic.specs.Bases.{Base}
use Rattle.consult_text.specs.States.{State}
use Rattle.consultation.specs.Answers.{AnswersTo, IsAnswered}
use Rattle.consultation.specs.Consultation.{IsRightAnswer, state_left, said_text, said_texts, Consultation}
use Rattle.consultation.specs.Statements.{IsStatement, AreStatements, GrowsLog}
use Rattle.consultation.specs.Streams.{Held}
use Rattle.consultation.specs.declared.said.Said.{Said}

consultation_more : (kb : Base) (s : State) (lines : List (List ℕ)) (said : List Said) (t : State) (line : List ℕ)
    (next : Said) → Consultation kb s lines said t → IsRightAnswer kb t line next
    → Consultation kb s (lines ++ line ∷ []) (said ++ next ∷ []) (state_left kb t next)
consultation_more kb s [] [] t line next is right =
    (subst (λ (u : State). IsRightAnswer kb u line next) is right, ap (λ (u : State). state_left kb u next) is)
consultation_more kb s [] (x ∷ said) t line next is right = absurd is
consultation_more kb s (l ∷ lines) [] t line next is right = absurd is
consultation_more kb s (l ∷ lines) (x ∷ said) t line next is right =
    (is.0, consultation_more kb (state_left kb s x) lines said t line next is.1 right)

texts_more : (kb : Base) (said : List Said) (next : Said)
    → said_texts kb said ++ said_text kb.vocabulary next ≡ said_texts kb (said ++ next ∷ [])
texts_more kb said next = sym (flat_map-append (said_text kb.vocabulary) said (next ∷ [])
    ∙ ap (λ (l : List ℕ). said_texts kb said ++ l) (append-nil (said_text kb.vocabulary next)))

statements_more : (kb : Base) (s : State) (n number : ℕ) (lines : List (List ℕ)) (said : List Said) (t : State)
    (next : Said) (bytes more : List ℕ) → number ≡ n + length lines → Consultation kb s lines said t
    → AreStatements kb s n said bytes → IsStatement kb (state_left kb t next) number next more
    → AreStatements kb s n (said ++ next ∷ []) (bytes ++ more)
statements_more kb s n number [] [] t next bytes more count is are states = (
  more,
  [],
  subst (λ (k : ℕ). IsStatement kb (state_left kb s next) k next more) (omega (arith, count))
      (subst (λ (u : State). IsStatement kb (state_left kb u next) number next more) is states),
  refl,
  ap (λ (l : List ℕ). l ++ more) are ∙ sym (append-nil more),
)
statements_more kb s n number [] (x ∷ said) t next bytes more count is are states = absurd is
statements_more kb s n number (l ∷ lines) [] t next bytes more count is are states = absurd is
statements_more kb s n number (l ∷ lines) (x ∷ said) t next bytes more count is are states = (
  are.0,
  are.1 ++ more,
  are.2,
  statements_more kb (state_left kb s x) (n + 1) number lines said t next are.1 more (omega (arith, count)) is.1 are.3
      states,
  ap (λ (l : List ℕ). l ++ more) are.4 ∙ append_assoc are.0 are.1 more,
)

log_none : (logs : Bool) (kb : Base) (first : State) (log : Option (List ℕ))
    → GrowsLog logs (AreStatements kb first 1 []) log log
log_none true kb first log = ([], refl, appends_none log)
log_none false kb first log = refl

log_more : (logs : Bool) (kb : Base) (first : State) (number : ℕ) (lines : List (List ℕ)) (said : List Said)
    (s : State) (next : Said) (old mid new : Option (List ℕ)) → number ≡ length lines + 1
    → Consultation kb first lines said s → GrowsLog logs (AreStatements kb first 1 said) old mid
    → GrowsLog logs (IsStatement kb (state_left kb s next) number next) mid new
    → GrowsLog logs (AreStatements kb first 1 (said ++ next ∷ [])) old new
log_more true kb first number lines said s next old mid new count is before now = (
  before.0 ++ now.0,
  statements_more kb first 1 number lines said s next before.0 now.0 (omega (arith, count)) is before.1 now.1,
  appends_more old mid new before.0 now.0 before.2 now.2,
)
log_more false kb first number lines said s next old mid new count is before now = now ∙ before

-- nothing is answered of no lines
pub answers_none : (logs : Bool) (kb : Base) (first : State) (held : Held) → AnswersTo logs kb first [] first held held
answers_none logs kb first held = ([], refl, appends_none held.out, log_none logs kb first held.log)

-- one line more
pub answers_more : (logs : Bool) (kb : Base) (first : State) (number : ℕ) (lines : List (List ℕ)) (line : List ℕ)
    (s t : State) (old mid new : Held) → number ≡ length lines + 1 → AnswersTo logs kb first lines s old mid
    → IsAnswered logs kb number s t line mid new → AnswersTo logs kb first (lines ++ line ∷ []) t old new
answers_more logs kb first number lines line s t old mid new count so_far answer =
    let next = answer.said in (
      so_far.0 ++ next ∷ [],
      subst (Consultation kb first (lines ++ line ∷ []) (so_far.0 ++ next ∷ [])) (sym answer.leaves)
          (consultation_more kb first lines so_far.0 s line next so_far.1 answer.right),
      subst (Appends old.out new.out) (texts_more kb so_far.0 next)
          (appends_more old.out mid.out new.out _ _ so_far.2 answer.out),
      log_more logs kb first number lines so_far.0 s next old.log mid.log new.log count so_far.1 so_far.3
          (subst (λ (u : State). GrowsLog logs (IsStatement kb u number next) mid.log new.log) answer.leaves
          answer.log),
    )
