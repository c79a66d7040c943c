-- Which reply to a command is right.
use Rattle.std.specs.Prelude.{◌≡◌, ◌<◌, Option, Some, None, ⊤}
use Rattle.kb_logic.specs.Bases.{Base}
use Rattle.kb_logic.specs.InForce.{InForce, IsModelOf, HasModel, HasNoModel, LeavesFalse}
use Rattle.kb_logic.specs.Answers.{AreModels, AreShown, IsLeast, IsSupport, IsConflict}
use Rattle.consult_text.specs.declared.refusals.F.{F}
use Rattle.consult_text.specs.declared.commands.Command.{Command}
use Rattle.consult_text.specs.declared.commands.Command.TheVariants as command
use Rattle.consult_text.specs.declared.replies.Reply.{Reply}
use Rattle.consult_text.specs.declared.replies.Reply.TheVariants as reply
use Rattle.consult_text.specs.States.{State, command_refusal}
use Rattle.consult_text.specs.Searches.{enough}
use Rattle.consult_text.specs.Replies.{IsAnswerTo}

-- what a state holds in force
abbrev pub in_force : State → InForce
in_force s = record { choices = s.choices }

-- what the reply says is so; a query stays undecided only at the budget of the state, and never where that is enough
abbrev pub IsSo : Base → State → Command → Reply → Type 0
IsSo kb s c reply.Fine = ⊤
IsSo kb s c (reply.Refused f) = ⊥
IsSo kb s c (reply.Choices ls) = ls ≡ s.choices
IsSo kb s c (reply.Model m) = IsModelOf kb (in_force s) m
IsSo kb s (command.Models n) (reply.Models ms all) = AreModels kb (in_force s) n ms all
IsSo kb s _ (reply.Models ms all) = ⊥
IsSo kb s c (reply.Forced ls) = AreShown kb (in_force s) ls
IsSo kb s (command.Minimize t) (reply.Minimum v m) = IsLeast kb (in_force s) t v m
IsSo kb s _ (reply.Minimum v m) = ⊥
IsSo kb s (command.Explain l) (reply.Supported ls) = IsSupport kb (in_force s) l (record { choices = ls })
IsSo kb s _ (reply.Supported ls) = ⊥
IsSo kb s (command.Explain l) reply.Free = LeavesFalse kb (in_force s) l
IsSo kb s _ reply.Free = ⊥
IsSo kb s c (reply.Conflict ls) = IsConflict kb (in_force s) (record { choices = ls })
IsSo kb s c reply.Consistent = HasModel kb (in_force s)
IsSo kb s c reply.Inconsistent = HasNoModel kb (in_force s)
IsSo kb s c (reply.Undecided k) = (s.budget ≡ Some k) × (k < enough kb s c)

-- the reply to a command that is not refused: one that there is to it, and what it says is so
abbrev pub RightAnswer : Base → State → Command → Reply → Type 0
RightAnswer kb s c r = IsAnswerTo c r × IsSo kb s c r

abbrev pub RightUnless : Option F → Base → State → Command → Reply → Type 0
RightUnless (Some f) kb s c r = r ≡ reply.Refused f
RightUnless None kb s c r = RightAnswer kb s c r

-- the reply to a command in a state: its refusal where it is refused, and else what it asks
abbrev pub RightReply : Base → State → Command → Reply → Type 0
RightReply kb s c r = RightUnless (command_refusal kb s c) kb s c r
