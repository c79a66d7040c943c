-- What is said of a file that is made: how many literals follow from it, and the least cost of its models.
use Rattle.std.specs.Prelude.{ℕ, List, [], ◌∷◌, ◌++◌, None, codes}
use Rattle.std.specs.Fmt.{decimal}
use Rattle.kb_logic.specs.declared.elements.ExtInt.{ExtInt}
use Rattle.kb_logic.specs.declared.structures.Literal.{Literal}
use Rattle.kb_logic.specs.declared.structures.Structure.{Structure}
use Rattle.kb_logic.specs.Bases.{Base}
use Rattle.kb_logic.specs.Decimals.{decimal_text}
use Rattle.generated_files.specs.Texts.{kind_name, text_of_lines}
use Rattle.generated_files.specs.declared.kinds.Kind.{Kind}
use Rattle.base_reader.specs.FileMeanings.{Choice, Meaning, FileMeans, base_of_meaning}
use Rattle.consult_text.specs.States.{State, first_state}
use Rattle.consult_text.specs.declared.commands.Command.{Command}
use Rattle.consult_text.specs.declared.replies.Reply.TheVariants as reply
use Rattle.consultation.specs.Consultation.{Consultation}
use Rattle.consultation.specs.declared.said.Said.TheVariants as said

-- a file that is made has one theory and one structure, and none is chosen
abbrev pub no_choice : Choice
no_choice = record { theory = None; structure = None }

-- what is asked of it
abbrev pub questions : List (List ℕ)
questions = codes "propagate." ∷ codes "minimize cost." ∷ []

-- these literals, and this value of a model, are right replies to the questions, from a state without choices in which
-- the number of conflicts has no limit
pub record AnswersQuestions (kb : Base) (forced : List Literal) (least : ExtInt) : Type 0 where
  pub propagate : Command
  pub minimize : Command
  pub model : Structure
  pub state : State
  pub right : Consultation kb (first_state None) questions
      (said.Replied propagate (reply.Forced forced) ∷ said.Replied minimize (reply.Minimum least model) ∷ []) state

-- the bytes mean a knowledge base, and these are right replies to the questions about it
pub record FileAnswers (bytes : List ℕ) (forced : List Literal) (least : ExtInt) : Type 0 where
  pub meaning : Meaning
  pub means : FileMeans no_choice bytes meaning
  pub answers : AnswersQuestions (base_of_meaning meaning) forced least

-- three lines: the kind and its number, how many literals are forced, and the minimum
abbrev pub summary_text : Kind → ℕ → ℕ → ExtInt → List ℕ
summary_text k n forced least = text_of_lines (
    (kind_name k ++ (codes " " ++ decimal n))
    ∷ (codes "forced " ++ decimal forced)
    ∷ (codes "minimum " ++ decimal_text least)
    ∷ [])
