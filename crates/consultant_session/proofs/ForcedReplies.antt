-- The literals of a right reply to `propagate` are over the knowledge base.
use Rattle.std.proofs.Common.{sym, subst, Option, Some, None}
use Rattle.kb_logic.specs.Bases.{Base}
use Rattle.ground_core.specs.Problems.{ProblemState}
use Rattle.ground_task.specs.Tasks.{IsTaskOf}
use Rattle.term_values.specs.GroundBases.{GroundBase}
use Rattle.consult_text.specs.RightReplies.{RightAnswer, RightUnless, RightReply}
use Rattle.consult_text.specs.States.{State, command_refusal}
use Rattle.consult_text.specs.declared.commands.Command.{Command}
use Rattle.consult_text.specs.declared.refusals.F.{F}
use Rattle.consult_text.specs.declared.replies.Reply.{Reply}
use Rattle.consult_text.specs.declared.replies.Reply.TheVariants as reply
use Rattle.claimed_replies.specs.Claims.{AreForcedOver}
use Rattle.consultant_session.proofs.FoundLemmas.{choices_over}
use Rattle.consultant_session.proofs.LiteralsOver.{some_over}

module _ (kb : Base) (numbers : GroundBase) (p : ProblemState) (is : IsTaskOf kb numbers p) (s : State)
    (c : Command) where
  of_answer : (r : Reply) → RightAnswer kb s c r → AreForcedOver numbers r
  of_answer (reply.Forced ls) right = choices_over kb numbers p ls is (some_over kb ls right.1.order)
  of_answer r right = tt

  of_reply : (f : Option F) (r : Reply) → RightUnless f kb s c r → AreForcedOver numbers r
  of_reply None r right = of_answer r right
  of_reply (Some f) r right = let P : Reply → Type 0 = λ r. AreForcedOver numbers r in subst P (sym right) tt

  pub forced_over : (r : Reply) → RightReply kb s c r → AreForcedOver numbers r
  forced_over r right = of_reply (command_refusal kb s c) r right
