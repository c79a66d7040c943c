-- What is kept of answers.
use Rattle.std.specs.Prelude.{◌≡◌, ◌↔◌, List, Some, Contains, IsTrue}
use Rattle.consult_text.specs.declared.commands.Command.{Command}
use Rattle.consult_text.specs.declared.replies.Reply.{Reply}
use Rattle.consult_text.specs.Replies.{IsQuery}
use Rattle.kept_answers.specs.declared.answers.Answered.{Answered}
use Rattle.kept_answers.specs.Answers.{same_query, kept_reply, with_answer}

-- the test of two commands tells exactly whether they are equal queries
abbrev pub SameQueryIsEquality : Type 0
SameQueryIsEquality = (a b : Command) → IsTrue (same_query a b) ↔ (IsQuery a × (a ≡ b))

-- the answer that was kept last is the one that is kept of its query
abbrev pub LastIsKept : Type 0
LastIsKept = (c : Command) (r : Reply) (answers : List Answered) → IsQuery c
    → kept_reply (with_answer c r answers) c ≡ Some r

-- what is kept of a query is one of the answers
abbrev pub KeptIsThere : Type 0
KeptIsThere = (answers : List Answered) (c : Command) (r : Reply) → kept_reply answers c ≡ Some r
    → (a : Answered) × Contains answers a × (a.query ≡ c) × (a.reply ≡ r)
