-- How the answers to all lines of the commands end.
use Rattle.std.specs.Prelude.{◌≡◌, ◌⊎◌, ℕ, ◌<◌, ◌≤◌, nat_le, List, length, take, if◌then◌else◌, Bool, true}
use Rattle.std.specs.Prelude.{Option, Some, Result, Ok, Err}
use Rattle.std.specs.Io.KnownBytes.{Consumes, IsAtEnd}
use Rattle.kb_io.specs.Lines.{command_lines}
use Rattle.kb_io.specs.Outside.{Rose}
use Rattle.kb_io.specs.Pending.{most_bytes}
use Rattle.kb_logic.specs.Bases.{Base}
use Rattle.consult_text.specs.States.{State}
use Rattle.consultation.specs.EndedLines.{ended_lines, HaveEnded}
use Rattle.consultation.specs.Answers.{AnswersAll, AnswersSome, AnswersInPart, IsPrintedInPart, IsStatedInPart}
use Rattle.consultation.specs.Streams.{IfObservable, Held, Streams, held_by, IsWithoutFault}
use Rattle.consultation.specs.declared.stop.Stop.{Stop}
use Rattle.consultation.specs.declared.stop.Stop.TheVariants as stop

-- Why the answers ended so; the counts that it does not name stayed. The log fails only where one is kept.
abbrev pub HasReason : Bool → Result Unit Stop → Streams → Streams → Type 0
HasReason logs (Ok x) before now = IsWithoutFault before now × IsAtEnd now.script
HasReason logs (Err stop.ReadFault) before now = Rose before.script_faults now.script_faults
    × (now.out_faults ≡ before.out_faults) × (now.log_faults ≡ before.log_faults)
HasReason logs (Err stop.WriteFault) before now = (now.script_faults ≡ before.script_faults)
    × Rose before.out_faults now.out_faults × (now.log_faults ≡ before.log_faults)
HasReason logs (Err stop.LogFault) before now = (logs ≡ true) × (now.script_faults ≡ before.script_faults)
    × (now.out_faults ≡ before.out_faults) × Rose before.log_faults now.log_faults
HasReason logs (Err stop.Memory) before now = IsWithoutFault before now
HasReason logs (Err stop.ScriptTooLong) before now = IsWithoutFault before now

-- the lines of the script, where it is within its limit, and else those that end within the bytes that may be taken
abbrev pub lines_within : List ℕ → List (List ℕ)
lines_within script = if nat_le (length script) most_bytes then command_lines script else ended_lines
    (take most_bytes script)

-- the lines that end within the bytes that were taken of the script are answered, as many as may be
pub record AnswersTaken (logs : Bool) (kb : Base) (first : State) (script : List ℕ) (left : Option (List ℕ))
    (old new : Held) : Type 0 where
  pub taken : List ℕ
  pub consumed : Consumes (Some script) left taken
  pub within : length taken ≤ most_bytes
  pub lines : List (List ℕ)
  pub ended : HaveEnded lines taken left
  pub answered : AnswersAll logs kb first lines old new

-- What was said to the lines of the script, of which `left` is observed to be left then: the right answers to all of
-- them; after a failing read or too many bytes, to all that end within the bytes taken; after a failing write, to a
-- prefix of those within the limit, and a prefix of the next answer, or of its statement; and where memory ran out, to
-- a prefix of them.
abbrev pub AnswersScript : Bool → Result Unit Stop → Base → State → List ℕ → Option (List ℕ) → Held → Held → Type 0
AnswersScript logs (Ok x) kb first script left old new = (length script ≤ most_bytes)
    × AnswersAll logs kb first (command_lines script) old new
AnswersScript logs (Err stop.ReadFault) kb first script left old new = AnswersTaken logs kb first script left old new
AnswersScript logs (Err stop.WriteFault) kb first script left old new =
    AnswersInPart (IsPrintedInPart logs kb) logs kb first (lines_within script) old new
AnswersScript logs (Err stop.LogFault) kb first script left old new =
    AnswersInPart (IsStatedInPart kb) logs kb first (lines_within script) old new
AnswersScript logs (Err stop.Memory) kb first script left old new =
    AnswersSome logs kb first (lines_within script) old new
AnswersScript logs (Err stop.ScriptTooLong) kb first script left old new = (most_bytes < length script)
    × AnswersAll logs kb first (ended_lines (take most_bytes script)) old new

-- how the answers to the commands end, and what was said where they are observable
abbrev pub AnswersCommands : Bool → Result Unit Stop → Base → State → Streams → Streams → Type 0
AnswersCommands logs result kb first before now = HasReason logs result before now × IfObservable before.script
    (λ script. AnswersScript logs result kb first script now.script (held_by before) (held_by now))

-- a session is opened and answers the commands, or memory runs out before a byte of them is taken
abbrev pub OpensAndAnswers : Bool → Result Unit Stop → Base → State → Streams → Streams → Type 0
OpensAndAnswers logs result kb first before now =
    ((result ≡ Err stop.Memory) × (now ≡ before)) ⊎ AnswersCommands logs result kb first before now
