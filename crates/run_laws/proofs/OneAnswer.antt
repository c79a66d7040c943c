-- The printed bytes determine what was answered.
use Rattle.std.proofs.Common.{◌≡◌, ℕ, ◌<◌, ◌^◌, List, [], ◌∷◌, ◌++◌, refl, sym, ap, ◌∙◌, subst, Bool, true, false}
use Rattle.std.proofs.Common.{cond, not, filter, arith, Option, Some, None, Ok, Err, inl, inr}
use Rattle.std.specs.List.{AllByRecursion}
use Rattle.std.proofs.lemmas.List.{append_cancel_left}
use Rattle.kb_logic.specs.declared.structures.Structure.{Structure}
use Rattle.kb_logic.specs.Bases.{Base}
use Rattle.kb_logic.specs.InForce.{InForce, IsModelOf}
use Rattle.consult_text.specs.declared.commands.Command.{Command}
use Rattle.consult_text.specs.declared.commands.Command.TheVariants as command
use Rattle.consult_text.specs.declared.refusals.F.{F}
use Rattle.consult_text.specs.declared.replies.Reply.{Reply}
use Rattle.consult_text.specs.declared.replies.Reply.TheVariants as reply
use Rattle.consult_text.specs.Written as written
use Rattle.consult_text.specs.Written.{WrittenCommand, IsWellFormed}
use Rattle.consult_text.specs.Lines.{HasCommand, Asks, IsCommandOver}
use Rattle.consult_text.specs.Literals.{IsLiteralOver}
use Rattle.consult_text.specs.Laws.{Meaning, Means, HasOneMeaning, CommandsAreOverTheBase}
use Rattle.consult_text.specs.Texts.{reply_text}
use Rattle.consult_text.specs.OneText.{HasWordNames, IsStructureOver, IsReplyOver, NoTwoRepliesHaveOneText}
use Rattle.consult_text.specs.Replies.{IsRefusal, IsReplyTo}
use Rattle.consult_text.specs.States.{State, first_state, same_literal, command_refusal, carried_out, unless_refused}
use Rattle.consult_text.specs.States.{state_after}
use Rattle.consult_text.specs.RightReplies.{in_force, IsSo, RightAnswer, RightUnless, RightReply}
use Rattle.consultant_session.proofs.FoundLemmas.{of_some}
use Rattle.run_laws.proofs.LiteralsOver.{some_over}
use Rattle.run_laws.proofs.ReadableValues.{readable}
use Rattle.consultation.specs.Consultation.{reply_of}
use Rattle.consultation.specs.declared.said.Said.{Said}
use Rattle.consultation.specs.declared.said.Said.TheVariants.{Nothing, TooLong, Refused, Replied}
use Rattle.consultation.specs.Consultation.{IsRightAnswer, state_left, said_text, said_texts, Consultation}
use Rattle.run_laws.specs.OneAnswer.{IsBudgetInRange, IsStateOver, OneAnswerLaw, OneConsultationLaw, StatesLaw}

-- a budget in its range has 64 bits
small_budget : (budget : Option ℕ) (k : ℕ) → IsBudgetInRange budget → budget ≡ Some k → k < 2 ^ 64
small_budget None k within is = absurd (cc)
small_budget (Some n) k within is = let same : n ≡ k = cc in omega (arith, within, same)

-- a model is over the knowledge base
model_over : (kb : Base) (p : InForce) (m : Structure) → IsModelOf kb p m → IsStructureOver kb m
model_over kb p m is = (is.structure, is.extends.domains)

models_over : (kb : Base) (p : InForce) (ms : List Structure) → AllByRecursion (IsModelOf kb p) ms
    → AllByRecursion (IsStructureOver kb) ms
models_over kb p [] all = tt
models_over kb p (m ∷ ms) all = (model_over kb p m all.0, models_over kb p ms all.1)

-- a right reply is one over the knowledge base
answer_over : (kb : Base) (s : State) (c : Command) (r : Reply) → IsStateOver kb s → RightAnswer kb s c r
    → IsReplyOver kb r
answer_over kb s c reply.Fine over is = tt
answer_over kb s c (reply.Refused f) over is = absurd is.1
answer_over kb s c (reply.Choices ls) over is = subst (AllByRecursion (IsLiteralOver kb)) (sym is.1) over.choices
answer_over kb s c (reply.Model m) over is = model_over kb (in_force s) m is.1
answer_over kb s c (reply.Models ms all) over is = several c is.1
  where
    several : (c : Command) → IsSo kb s c (reply.Models ms all) → AllByRecursion (IsStructureOver kb) ms
    several (command.Models n) is = models_over kb (in_force s) ms is.models
    several c is = absurd is
answer_over kb s c (reply.Forced ls) over is = some_over kb ls is.1.order
answer_over kb s c (reply.Minimum v m) over is = least c is.1
  where
    least : (c : Command) → IsSo kb s c (reply.Minimum v m) → IsStructureOver kb m
    least (command.Minimize t) is = model_over kb (in_force s) m is.model
    least c is = absurd is
answer_over kb s c (reply.Supported ls) over is = supported c is.1
  where
    supported : (c : Command) → IsSo kb s c (reply.Supported ls) → AllByRecursion (IsLiteralOver kb) ls
    supported (command.Explain l) is = of_some (IsLiteralOver kb) ls s.choices is.among.choices over.choices
    supported c is = absurd is
answer_over kb s c reply.Free over is = tt
answer_over kb s c (reply.Conflict ls) over is =
    of_some (IsLiteralOver kb) ls s.choices is.1.among.choices over.choices
answer_over kb s c reply.Consistent over is = tt
answer_over kb s c reply.Inconsistent over is = tt
answer_over kb s c (reply.Undecided k) over is = small_budget s.budget k over.budget is.1.0

reply_over : (f : Option F) (kb : Base) (s : State) (c : Command) (r : Reply) → IsStateOver kb s
    → RightUnless f kb s c r → IsReplyOver kb r
reply_over None kb s c r over is = answer_over kb s c r over is
reply_over (Some f) kb s c r over is = let P : Reply → Type 0 = λ r. IsReplyOver kb r in subst P (sym is) tt

-- and one to its command
reply_to : (f : Option F) (kb : Base) (s : State) (c : Command) (r : Reply) → RightUnless f kb s c r → IsReplyTo c r
reply_to None kb s c r is = inr is.0
reply_to (Some f) kb s c r is = inl (let P : Reply → Type 0 = λ r. IsRefusal r in subst P (sym is) tt)

-- what two answers to a line have in common
abbrev IsSame : Base → State → Said → Said → List ℕ → List ℕ → Type 0
IsSame kb s a b after after' = (reply_of a ≡ reply_of b) × (state_left kb s a ≡ state_left kb s b) × (after ≡ after')

module _ (meanings : (kb : Base) (line : List ℕ) → HasOneMeaning kb line) (texts : NoTwoRepliesHaveOneText) where
  -- two replies to one command
  same_command : (kb : Base) (s : State) (c : Command) (r q : Reply) (after after' : List ℕ) → HasWordNames kb
      → IsStateOver kb s
      → RightReply kb s c r → RightReply kb s c q
      → reply_text kb.vocabulary r ++ after ≡ reply_text kb.vocabulary q ++ after'
      → IsSame kb s (Replied c r) (Replied c q) after after'
  same_command kb s c r q after after' names over right right' same =
      let f = command_refusal kb s c in
      let both = texts kb names c r q after after' (reply_to f kb s c r right)
      (reply_to f kb s c q right') (reply_over f kb s c r over right) (reply_over f kb s c q over right')
      (readable f kb s c r q right right') same in
      (ap (λ (r : Reply). Some r) both.0, refl, both.1)

  pub one_answer : OneAnswerLaw
  one_answer kb s line a b after after' names over right right' same = go a b right right' same
    where
      one : (x y : Meaning) → Means kb line x → Means kb line y → x ≡ y
      one = meanings kb line

      go : (a b : Said) → IsRightAnswer kb s line a → IsRightAnswer kb s line b
          → said_text kb.vocabulary a ++ after ≡ said_text kb.vocabulary b ++ after' → IsSame kb s a b after after'
      go Nothing Nothing right right' same = (refl, refl, same)
      go Nothing TooLong right right' same = absurd (omega (arith, right.0, right'))
      go Nothing (Refused f) right right' same =
          absurd (let clash : ⊥ = cc (one (Ok None) (Err f) right.1 right'.1) in clash)
      go Nothing (Replied c r) right right' same =
          absurd (let clash : ⊥ = cc (one (Ok None) (Ok (Some c)) right.1 right'.1) in clash)
      go TooLong Nothing right right' same = absurd (omega (arith, right, right'.0))
      go TooLong TooLong right right' same =
          (refl, refl, append_cancel_left (said_text kb.vocabulary TooLong) after after' same)
      go TooLong (Refused f) right right' same = absurd (omega (arith, right, right'.0))
      go TooLong (Replied c r) right right' same = absurd (omega (arith, right, right'.0))
      go (Refused f) Nothing right right' same =
          absurd (let clash : ⊥ = cc (one (Err f) (Ok None) right.1 right'.1) in clash)
      go (Refused f) TooLong right right' same = absurd (omega (arith, right.0, right'))
      go (Refused f) (Refused g) right right' same =
          let is : f ≡ g = cc (one (Err f) (Err g) right.1 right'.1) in
          let tails = append_cancel_left (said_text kb.vocabulary (Refused g)) after after'
          (ap (λ (h : F). said_text kb.vocabulary (Refused h) ++ after) (sym is) ∙ same) in
          (ap (λ (h : F). Some (reply.Refused h)) is, refl, tails)
      go (Refused f) (Replied c r) right right' same =
          absurd (let clash : ⊥ = cc (one (Err f) (Ok (Some c)) right.1 right'.1) in clash)
      go (Replied c r) Nothing right right' same =
          absurd (let clash : ⊥ = cc (one (Ok (Some c)) (Ok None) right.1 right'.1) in clash)
      go (Replied c r) TooLong right right' same = absurd (omega (arith, right.0, right'))
      go (Replied c r) (Refused f) right right' same =
          absurd (let clash : ⊥ = cc (one (Ok (Some c)) (Err f) right.1 right'.1) in clash)
      go (Replied c r) (Replied d q) right right' same =
          let is : c ≡ d = cc (one (Ok (Some c)) (Ok (Some d)) right.1 right'.1) in
          let right_q = subst (λ (e : Command). RightReply kb s e q) (sym is) right'.2 in
          let both = same_command kb s c r q after after' names over right.2 right_q same in
          (both.0, ap (state_after kb s) is, both.2)

all_append : {T : Type 0} (W : T → Type 0) (xs ys : List T) → AllByRecursion W xs → AllByRecursion W ys
    → AllByRecursion W (xs ++ ys)
all_append W [] ys front back = back
all_append W (x ∷ xs) ys front back = (front.0, all_append W xs ys front.1 back)

all_filter : {T : Type 0} (W : T → Type 0) (passes : T → Bool) (xs : List T) → AllByRecursion W xs
    → AllByRecursion W (filter passes xs)
all_filter W passes [] all = tt
all_filter {T} W passes (x ∷ xs) all =
    elim (passes x) as (λ (b : Bool). AllByRecursion W (cond b (x ∷ filter passes xs) (filter passes xs)))
    [ true ↦ (all.0, all_filter W passes xs all.1) | false ↦ all_filter W passes xs all.1 ]

-- a budget that a line gives is in its range
budget_asked : (kb : Base) (w : WrittenCommand) (b : Option ℕ) → IsWellFormed w → Asks kb w (command.Budget b)
    → IsBudgetInRange b
budget_asked kb (written.budget text) b formed is = let P : Option ℕ → Type 0 = λ b. IsBudgetInRange b in
    subst P (sym is) formed.most
budget_asked kb written.unlimited b formed is = let P : Option ℕ → Type 0 = λ b. IsBudgetInRange b in
    subst P (sym is) tt
budget_asked kb w b formed is = absurd is

carried_over : (kb : Base) (s : State) (c : Command) (line : List ℕ) → IsStateOver kb s → IsCommandOver kb c
    → HasCommand kb line c → IsStateOver kb (carried_out s c)
carried_over kb s (command.Assert l) line over is has =
    record { choices = all_append (IsLiteralOver kb) s.choices (l ∷ []) over.choices (is, tt); budget = over.budget }
carried_over kb s (command.Retract l) line over is has =
    record {
      choices = all_filter (IsLiteralOver kb) (λ c. not (same_literal l c)) s.choices over.choices;
      budget = over.budget;
    }
carried_over kb s command.Reset line over is has = record { choices = tt; budget = over.budget }
carried_over kb s command.Choices line over is has = over
carried_over kb s command.Model line over is has = over
carried_over kb s (command.Models n) line over is has = over
carried_over kb s command.Propagate line over is has = over
carried_over kb s (command.Minimize t) line over is has = over
carried_over kb s (command.Explain l) line over is has = over
carried_over kb s command.Why line over is has = over
carried_over kb s (command.Budget b) line over is has =
    record { choices = over.choices; budget = budget_asked kb has.0 b has.1.formed has.2 }
carried_over kb s command.Forget line over is has = over

unless_over : (kb : Base) (f : Option F) (s t : State) → IsStateOver kb s → IsStateOver kb t
    → IsStateOver kb (unless_refused f s t)
unless_over kb None s t before after = after
unless_over kb (Some f) s t before after = before

module _ (commands : CommandsAreOverTheBase) where
  left_over : (kb : Base) (s : State) (line : List ℕ) (said : Said) → IsStateOver kb s → IsRightAnswer kb s line said
      → IsStateOver kb (state_left kb s said)
  left_over kb s line Nothing over right = over
  left_over kb s line TooLong over right = over
  left_over kb s line (Refused f) over right = over
  left_over kb s line (Replied c r) over right =
      unless_over kb (command_refusal kb s c) s (carried_out s c) over
      (carried_over kb s c line over (commands kb line c right.1) right.1)

  consulted_over : (kb : Base) (s : State) (lines : List (List ℕ)) (said : List Said) (t : State) → IsStateOver kb s
      → Consultation kb s lines said t → IsStateOver kb t
  consulted_over kb s [] [] t over is = let P : State → Type 0 = λ t. IsStateOver kb t in subst P (sym is) over
  consulted_over kb s [] (a ∷ said) t over is = absurd is
  consulted_over kb s (line ∷ lines) [] t over is = absurd is
  consulted_over kb s (line ∷ lines) (a ∷ said) t over is =
      consulted_over kb (state_left kb s a) lines said t (left_over kb s line a over is.0) is.1

  pub states_over : StatesLaw
  states_over kb budget lines said t within is =
      consulted_over kb (first_state budget) lines said t (record { choices = tt; budget = within }) is

module _ (commands : CommandsAreOverTheBase) (one : OneAnswerLaw) where
  pub one_consultation : OneConsultationLaw
  one_consultation kb s t u [] [] [] names over is is' same = refl
  one_consultation kb s t u [] [] (y ∷ b) names over is is' same = absurd is'
  one_consultation kb s t u [] (x ∷ a) b names over is is' same = absurd is
  one_consultation kb s t u (line ∷ lines) [] b names over is is' same = absurd is
  one_consultation kb s t u (line ∷ lines) (x ∷ a) [] names over is is' same = absurd is'
  one_consultation kb s t u (line ∷ lines) (x ∷ a) (y ∷ b) names over is is' same =
      let first = one kb s line x y (said_texts kb a) (said_texts kb b) names over is.0 is'.0 same in
      let later = subst (λ (v : State). Consultation kb v lines b u) (sym first.1) is'.1 in
      let more = one_consultation kb (state_left kb s x) t u lines a b names (left_over commands kb s line x over is.0)
      is.1 later first.2 in
      λ i. first.0 i ∷ more i
