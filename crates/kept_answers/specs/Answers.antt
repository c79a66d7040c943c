-- The last answer to each kind of query.
use Rattle.std.specs.Prelude.{◌==◌, Bool, true, false, not, if◌then◌else◌, Option, Some, None, List, [], ◌∷◌, ◌++◌}
use Rattle.std.specs.Prelude.{filter}
use Rattle.consult_text.specs.declared.commands.Command.{Command}
use Rattle.consult_text.specs.declared.commands.Command.TheVariants as command
use Rattle.consult_text.specs.declared.replies.Reply.{Reply}
use Rattle.consult_text.specs.States.{same_literal}
use Rattle.kept_answers.specs.declared.answers.Answered.{Answered}

-- both are queries of one kind
abbrev pub same_kind : Command → Command → Bool
same_kind command.Model command.Model = true
same_kind (command.Models n) (command.Models m) = true
same_kind command.Propagate command.Propagate = true
same_kind (command.Minimize t) (command.Minimize u) = true
same_kind (command.Explain l) (command.Explain k) = true
same_kind command.Why command.Why = true
same_kind _ _ = false

-- both are the same query
abbrev pub same_query : Command → Command → Bool
same_query command.Model command.Model = true
same_query (command.Models n) (command.Models m) = n == m
same_query command.Propagate command.Propagate = true
same_query (command.Minimize t) (command.Minimize u) = t == u
same_query (command.Explain l) (command.Explain k) = same_literal l k
same_query command.Why command.Why = true
same_query _ _ = false

-- the reply that is kept of the query
abbrev pub kept_reply : List Answered → Command → Option Reply
kept_reply [] c = None
kept_reply (a ∷ more) c = if same_query a.query c then Some a.reply else kept_reply more c

-- the answers but the one to a query of this kind
abbrev pub without_kind : Command → List Answered → List Answered
without_kind c answers = filter (λ a. not (same_kind a.query c)) answers

-- with this one in place of the one of its kind
abbrev pub with_answer : Command → Reply → List Answered → List Answered
with_answer c r answers = without_kind c answers ++ record { query = c; reply = r } ∷ []
