-- That the printed bytes determine what was answered.
use Rattle.std.specs.Prelude.{◌≡◌, ◌≤◌, ◌++◌, ℕ, List, map, Option, Some, None, ⊤}
use Rattle.std.specs.List.{AllByRecursion}
use Rattle.kb_logic.specs.Bases.{Base}
use Rattle.consult_text.specs.Budgets.{most_budget}
use Rattle.consult_text.specs.Literals.{IsLiteralOver}
use Rattle.consult_text.specs.OneText.{HasWordNames}
use Rattle.consult_text.specs.States.{State, first_state}
use Rattle.consultation.specs.Consultation.{reply_of}
use Rattle.consultation.specs.declared.said.Said.{Said}
use Rattle.consultation.specs.Consultation.{IsRightAnswer, state_left, said_text, said_texts, Consultation}

-- a budget that can be given
abbrev pub IsBudgetInRange : Option ℕ → Type 0
IsBudgetInRange None = ⊤
IsBudgetInRange (Some n) = n ≤ most_budget

-- the choices are literals over the knowledge base, and the budget is one that can be given
pub record IsStateOver (kb : Base) (s : State) : Type 0 where
  pub choices : AllByRecursion (IsLiteralOver kb) s.choices
  pub budget : IsBudgetInRange s.budget

-- Over a knowledge base whose names are words, two right answers to a line that have one text are one reply
-- and leave one state. What follows the texts does not matter: none of them begins another.
abbrev pub OneAnswerLaw : Type 0
OneAnswerLaw = (kb : Base) (s : State) (line : List ℕ) (a b : Said) (after after' : List ℕ)
    → HasWordNames kb → IsStateOver kb s
    → IsRightAnswer kb s line a → IsRightAnswer kb s line b
    → said_text kb.vocabulary a ++ after ≡ said_text kb.vocabulary b ++ after'
    → (reply_of a ≡ reply_of b) × (state_left kb s a ≡ state_left kb s b) × (after ≡ after')

-- So two consultations of the same lines, from one state, that print the same bytes have the same replies, line by
-- line.
abbrev pub OneConsultationLaw : Type 0
OneConsultationLaw = (kb : Base) (s t u : State) (lines : List (List ℕ)) (a b : List Said)
    → HasWordNames kb → IsStateOver kb s
    → Consultation kb s lines a t → Consultation kb s lines b u → said_texts kb a ≡ said_texts kb b
    → map reply_of a ≡ map reply_of b

-- and a consultation that begins with a budget that can be given always has such a state
abbrev pub StatesLaw : Type 0
StatesLaw = (kb : Base) (budget : Option ℕ) (lines : List (List ℕ)) (said : List Said) (t : State)
    → IsBudgetInRange budget → Consultation kb (first_state budget) lines said t → IsStateOver kb t
