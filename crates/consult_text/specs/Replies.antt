-- Which replies there are to a command.
use Rattle.std.specs.Prelude.{⊤, ◌⊎◌}
use Rattle.consult_text.specs.declared.commands.Command.{Command}
use Rattle.consult_text.specs.declared.commands.Command.TheVariants as command
use Rattle.consult_text.specs.declared.replies.Reply.{Reply}
use Rattle.consult_text.specs.declared.replies.Reply.TheVariants as reply

-- it changes the state or what is kept, and asks nothing
abbrev pub IsChange : Command → Type 0
IsChange (command.Assert l) = ⊤
IsChange (command.Retract l) = ⊤
IsChange command.Reset = ⊤
IsChange (command.Budget b) = ⊤
IsChange command.Forget = ⊤
IsChange _ = ⊥

-- it asks about the models under what is in force
abbrev pub IsQuery : Command → Type 0
IsQuery command.Model = ⊤
IsQuery (command.Models n) = ⊤
IsQuery command.Propagate = ⊤
IsQuery (command.Minimize t) = ⊤
IsQuery (command.Explain l) = ⊤
IsQuery command.Why = ⊤
IsQuery _ = ⊥

-- it is a query that has an answer of its own only where there is a model
abbrev pub NeedsModel : Command → Type 0
NeedsModel command.Why = ⊥
NeedsModel c = IsQuery c

-- the replies to a command that is not refused: a change is answered by `ok`, and the others by what they ask for
abbrev pub IsAnswerTo : Command → Reply → Type 0
IsAnswerTo c reply.Fine = IsChange c
IsAnswerTo c reply.Inconsistent = NeedsModel c
IsAnswerTo c (reply.Undecided k) = IsQuery c
IsAnswerTo command.Choices (reply.Choices ls) = ⊤
IsAnswerTo command.Model (reply.Model m) = ⊤
IsAnswerTo (command.Models n) (reply.Models ms all) = ⊤
IsAnswerTo command.Propagate (reply.Forced ls) = ⊤
IsAnswerTo (command.Minimize t) (reply.Minimum v m) = ⊤
IsAnswerTo (command.Explain l) (reply.Supported ls) = ⊤
IsAnswerTo (command.Explain l) reply.Free = ⊤
IsAnswerTo command.Why (reply.Conflict ls) = ⊤
IsAnswerTo command.Why reply.Consistent = ⊤
IsAnswerTo _ _ = ⊥

-- it says that a command is refused
abbrev pub IsRefusal : Reply → Type 0
IsRefusal (reply.Refused f) = ⊤
IsRefusal _ = ⊥

-- the replies to a command: each may be refused
abbrev pub IsReplyTo : Command → Reply → Type 0
IsReplyTo c r = IsRefusal r ⊎ IsAnswerTo c r
