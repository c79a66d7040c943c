-- That lines are answered: what the output and the log grow by.
use Rattle.std.specs.Prelude.{◌≡◌, ℕ, ◌+◌, List, ◌∷◌, ◌++◌, length, Bool}
use Rattle.std.specs.Io.KnownBytes.{Appends}
use Rattle.kb_io.specs.ReadWrite.{AppendsPrefix}
use Rattle.kb_logic.specs.Bases.{Base}
use Rattle.consult_text.specs.States.{State}
use Rattle.consultation.specs.Consultation.{IsRightAnswer, state_left, said_text, said_texts, Consultation}
use Rattle.consultation.specs.Statements.{IsStatement, AreStatements, GrowsLog}
use Rattle.consultation.specs.Streams.{Held}
use Rattle.consultation.specs.declared.said.Said.{Said}

-- the lines have their right answers from the state `first` on, they leave t, and the output grew by exactly the
-- answers' bytes; the log, where one is kept, by their statements, in which the lines are numbered from 1 on
abbrev pub AnswersTo : Bool → Base → State → List (List ℕ) → State → Held → Held → Type 0
AnswersTo logs kb first lines t old new = (said : List Said) × Consultation kb first lines said t
    × Appends old.out new.out (said_texts kb said) × GrowsLog logs (AreStatements kb first 1 said) old.log new.log

-- all of the lines are answered
abbrev pub AnswersAll : Bool → Base → State → List (List ℕ) → Held → Held → Type 0
AnswersAll logs kb first lines old new = (t : State) × AnswersTo logs kb first lines t old new

-- a prefix of the lines is answered
pub record AnswersSome (logs : Bool) (kb : Base) (first : State) (lines : List (List ℕ)) (old new : Held) : Type 0 where
  pub front : List (List ℕ)
  pub rest : List (List ℕ)
  pub parts : lines ≡ front ++ rest
  pub answered : AnswersAll logs kb first front old new

-- line n has its right answer, which turns the state s into t: the output grew by exactly its bytes, and the log, where
-- one is kept, by its statement
pub record IsAnswered (logs : Bool) (kb : Base) (n : ℕ) (s t : State) (line : List ℕ) (old new : Held) : Type 0 where
  pub said : Said
  pub right : IsRightAnswer kb s line said
  pub leaves : t ≡ state_left kb s said
  pub out : Appends old.out new.out (said_text kb.vocabulary said)
  pub log : GrowsLog logs (IsStatement kb t n said) old.log new.log

-- line n has a right answer, of which a prefix was printed: its whole statement is in the log, where one is kept
abbrev pub IsPrintedInPart : Bool → Base → ℕ → State → List ℕ → Held → Held → Type 0
IsPrintedInPart logs kb n s line old new = (said : Said) × IsRightAnswer kb s line said
    × GrowsLog logs (IsStatement kb (state_left kb s said) n said) old.log new.log
    × AppendsPrefix old.out new.out (said_text kb.vocabulary said)

-- line n has a right answer, of whose statement a prefix is in the log: nothing of the answer was printed
abbrev pub IsStatedInPart : Base → ℕ → State → List ℕ → Held → Held → Type 0
IsStatedInPart kb n s line old new = (said : Said) × IsRightAnswer kb s line said
    × ((bytes : List ℕ) × IsStatement kb (state_left kb s said) n said bytes × AppendsPrefix old.log new.log bytes)
    × (new.out ≡ old.out)

-- a prefix of the lines is answered, and the answer to the next line broke off so
pub record AnswersInPart (BreaksOff : ℕ → State → List ℕ → Held → Held → Type 0) (logs : Bool) (kb : Base)
    (first : State) (lines : List (List ℕ)) (old new : Held) : Type 0 where
  pub front : List (List ℕ)
  pub line : List ℕ
  pub rest : List (List ℕ)
  pub parts : lines ≡ front ++ line ∷ rest
  pub state : State
  pub mid : Held
  pub answered : AnswersTo logs kb first front state old mid
  pub begun : BreaksOff (length front + 1) state line mid new
