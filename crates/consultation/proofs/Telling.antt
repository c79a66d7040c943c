-- What is said to a line, once it is stated and printed, is its answer.
use Rattle.std.proofs.Common.{◌≡◌, ℕ, List, sym, ◌∙◌, subst, Bool, Result, Ok, Err}
use Rattle.kb_logic.specs.Bases.{Base}
use Rattle.consult_text.specs.States.{State}
use Rattle.consultation.specs.Consultation.{IsRightAnswer, state_left}
use Rattle.consultation.specs.Statements.{IsStatement, GrowsLog}
use Rattle.consultation.specs.Streams.{Held}
use Rattle.consultation.specs.Turns.{Tells, AnswersLine}
use Rattle.consultation.specs.declared.said.Said.{Said}
use Rattle.consultation.specs.declared.stop.Stop.{Stop}
use Rattle.consultation.specs.declared.stop.Stop.TheVariants as stop

told : (result : Result Unit Stop) (logs : Bool) (kb : Base) (n : ℕ) (s t : State) (line : List ℕ) (said : Said)
    (old new : Held) → IsRightAnswer kb s line said → t ≡ state_left kb s said
    → Tells result logs kb (state_left kb s said) n said old new → AnswersLine result logs kb n s t line old new
told (Ok x) logs kb n s t line said old new right leaves tells = record {
  said = said;
  right = right;
  leaves = leaves;
  out = tells.1;
  log = subst (λ (u : State). GrowsLog logs (IsStatement kb u n said) old.log new.log) (sym leaves) tells.0;
}
told (Err stop.WriteFault) logs kb n s t line said old new right leaves tells = (said, right, tells.0, tells.1)
told (Err stop.LogFault) logs kb n s t line said old new right leaves tells = (said, right, tells.0, tells.1)
told (Err stop.Memory) logs kb n s t line said old new right leaves tells = tells
told (Err stop.ReadFault) logs kb n s t line said old new right leaves tells = absurd tells
told (Err stop.ScriptTooLong) logs kb n s t line said old new right leaves tells = absurd tells

-- the line is answered by what is said to it
pub answered : (result : Result Unit Stop) (logs : Bool) (kb kb' : Base) (n : ℕ) (s t t' : State)
    (line line' : List ℕ) (said : Said) (old new : Held) → kb' ≡ kb → line' ≡ line → t' ≡ t
    → IsRightAnswer kb s line' said → t ≡ state_left kb s said → Tells result logs kb' t n said old new
    → AnswersLine result logs kb n s t' line old new
answered result logs kb kb' n s t t' line line' said old new same_kb same_line same_state right leaves tells =
    let at_kb = subst (λ (k : Base). Tells result logs k t n said old new) same_kb tells in
    let at_state = subst (λ (u : State). Tells result logs kb u n said old new) leaves at_kb in
    told result logs kb n s t' line said old new
    (subst (λ (l : List ℕ). IsRightAnswer kb s l said) same_line right) (same_state ∙ leaves) at_state
