-- The answer to one line.
use Rattle.std.specs.Prelude.{◌≡◌, ℕ, List, [], Bool, true, false, is_some, Option, Result, Ok, Err}
use Rattle.std.specs.Io.KnownBytes.{Appends}
use Rattle.kb_io.specs.Outside.{Rose}
use Rattle.kb_io.specs.Pending.{Pending, TakesLine, NextLine}
use Rattle.kb_io.specs.ReadWrite.{AppendsPrefix}
use Rattle.kb_io.specs.declared.lines.LineError.{LineError}
use Rattle.kb_io.specs.declared.lines.LineError.TheVariants as line_error
use Rattle.kb_io.specs.declared.lines.Next.{Next}
use Rattle.kb_io.specs.declared.lines.Next.TheVariants as next
use Rattle.consult_base.specs.Opened.{Opened, base_of}
use Rattle.kb_logic.specs.Bases.{Base}
use Rattle.log_checker.specs.Growing.{Checking}
use Rattle.consult_text.specs.States.{State, first_state}
use Rattle.consult_text.specs.declared.replies.Reply.{Reply}
use Rattle.consultation.specs.Consultation.{IsRightAnswer, state_left, reply_of, said_text}
use Rattle.consultation.specs.Statements.{IsStatement, GrowsLog}
use Rattle.consultation.specs.Answers.{IsAnswered, IsPrintedInPart, IsStatedInPart}
use Rattle.consultation.specs.Accepted.{IsFreshFor}
use Rattle.consultation.specs.Answering.{HasReason}
use Rattle.consultation.specs.Streams.{Held, Streams, held_by, IsWithoutFault}
use Rattle.consultation.specs.declared.said.Said.{Said}
use Rattle.consultation.specs.declared.stop.Stop.{Stop}
use Rattle.consultation.specs.declared.stop.Stop.TheVariants as stop

-- the reply is the right one to the line in the state s, and t is the state after it
pub record RepliesTo (kb : Base) (s : State) (line : List ℕ) (found : Option Reply) (t : State) : Type 0 where
  pub said : Said
  pub right : IsRightAnswer kb s line said
  pub reply : found ≡ reply_of said
  pub leaves : t ≡ state_left kb s said

-- What is stated of line n was written to the log and flushed, where one is kept, or why not; `before` and `now` are
-- the log's counts of faults.
abbrev pub States : Result Unit Stop → Bool → Base → State → ℕ → Said → Option (List ℕ) → Option (List ℕ) → ℕ → ℕ
    → Type 0
States (Ok x) logs kb t n said old new before now = (now ≡ before) × GrowsLog logs (IsStatement kb t n said) old new
States (Err stop.LogFault) logs kb t n said old new before now = (logs ≡ true) × Rose before now
    × ((bytes : List ℕ) × IsStatement kb t n said bytes × AppendsPrefix old new bytes)
States (Err stop.Memory) logs kb t n said old new before now = (now ≡ before) × (new ≡ old)
States (Err _) logs kb t n said old new before now = ⊥

-- The counts of faults of the output and of the log, by how a line was answered: that of the one that failed rose.
abbrev pub HasCounts : Result Unit Stop → Bool → (out out' log log' : ℕ) → Type 0
HasCounts (Ok x) logs out out' log log' = (out' ≡ out) × (log' ≡ log)
HasCounts (Err stop.WriteFault) logs out out' log log' = Rose out out' × (log' ≡ log)
HasCounts (Err stop.LogFault) logs out out' log log' = (logs ≡ true) × (out' ≡ out) × Rose log log'
HasCounts (Err stop.Memory) logs out out' log log' = (out' ≡ out) × (log' ≡ log)
HasCounts (Err _) logs out out' log log' = ⊥

-- what is said to line n was stated and then printed, or why not; nothing was written where memory ran out
abbrev pub Tells : Result Unit Stop → Bool → Base → State → ℕ → Said → Held → Held → Type 0
Tells (Ok x) logs kb t n said old new = GrowsLog logs (IsStatement kb t n said) old.log new.log
    × Appends old.out new.out (said_text kb.vocabulary said)
Tells (Err stop.WriteFault) logs kb t n said old new = GrowsLog logs (IsStatement kb t n said) old.log new.log
    × AppendsPrefix old.out new.out (said_text kb.vocabulary said)
Tells (Err stop.LogFault) logs kb t n said old new =
    ((bytes : List ℕ) × IsStatement kb t n said bytes × AppendsPrefix old.log new.log bytes) × (new.out ≡ old.out)
Tells (Err stop.Memory) logs kb t n said old new = new ≡ old
Tells (Err _) logs kb t n said old new = ⊥

-- line n was answered, or why not
abbrev pub AnswersLine : Result Unit Stop → Bool → Base → ℕ → State → State → List ℕ → Held → Held → Type 0
AnswersLine (Ok x) logs kb n s t line old new = IsAnswered logs kb n s t line old new
AnswersLine (Err stop.WriteFault) logs kb n s t line old new = IsPrintedInPart logs kb n s line old new
AnswersLine (Err stop.LogFault) logs kb n s t line old new = IsStatedInPart kb n s line old new
AnswersLine (Err stop.Memory) logs kb n s t line old new = new ≡ old
AnswersLine (Err _) logs kb n s t line old new = ⊥

-- no line is left, or none is read, for this reason; nothing was written
pub record TakesNone (result : Result Next LineError) (old new : Pending) (before now : Streams) : Type 0 where
  pub ends : NextLine result old new before.script now.script before.script_faults now.script_faults
  pub held : held_by now ≡ held_by before
  pub out_faults : now.out_faults ≡ before.out_faults
  pub log_faults : now.log_faults ≡ before.log_faults

-- the next line, which is line n, was taken and answered, or there is none, or why not
abbrev pub Turns : Result Bool Stop → Bool → Base → ℕ → State → State → Pending → Pending → Streams → Streams → Type 0
Turns (Ok true) logs kb n s t old new before now =
    IsWithoutFault before now × ((line : List ℕ) × TakesLine line old new before.script now.script
    × IsAnswered logs kb n s t line (held_by before) (held_by now))
Turns (Ok false) logs kb n s t old new before now = TakesNone (Ok next.End) old new before now
Turns (Err stop.ReadFault) logs kb n s t old new before now = TakesNone (Err line_error.Fault) old new before now
Turns (Err stop.ScriptTooLong) logs kb n s t old new before now = TakesNone (Err line_error.TooLong) old new before now
Turns (Err stop.WriteFault) logs kb n s t old new before now =
    HasReason logs (Err stop.WriteFault) before now × ((line : List ℕ)
    × TakesLine line old new before.script now.script × IsPrintedInPart logs kb n s line (held_by before) (held_by now))
Turns (Err stop.LogFault) logs kb n s t old new before now =
    HasReason logs (Err stop.LogFault) before now × ((line : List ℕ)
    × TakesLine line old new before.script now.script × IsStatedInPart kb n s line (held_by before) (held_by now))
Turns (Err stop.Memory) logs kb n s t old new before now = IsWithoutFault before now × (held_by now ≡ held_by before)

-- what a consultant holds: the knowledge base and the state of its session, what is known of the commands, whether a
-- log is kept, what is known of it, and how many lines were read
pub record ConsultantState : Type 0 where
  pub kb : Opened
  pub state : State
  pub lines : Pending
  pub logs : Bool
  pub checker : Option Checking
  pub number : ℕ

-- it has read no line, no choice is made, and no entry is in its log, where one is kept
pub record IsJustOpened (c : ConsultantState) : Type 0 where
  pub state : c.state ≡ first_state c.state.budget
  pub lines : c.lines ≡ record { taken = 0; ahead = []; line = [] }
  pub number : c.number ≡ 0
  pub checks : c.logs ≡ is_some c.checker
  pub fresh : IsFreshFor (base_of c.kb) c.checker

-- all but what is known of the log stayed
abbrev pub IsSameButChecker : ConsultantState → ConsultantState → Type 0
IsSameButChecker old new = new ≡ record old { checker = new.checker }

-- all but the state of the session and what is known of the log stayed
abbrev pub IsSameButState : ConsultantState → ConsultantState → Type 0
IsSameButState old new = new ≡ record old { state = new.state; checker = new.checker }
