-- A consultation: what is rightly said in answer to lines, one after another.
use Rattle.std.specs.Prelude.{◌≡◌, ℕ, ◌<◌, ◌≤◌, List, [], ◌∷◌, Option, Some, None, length, flat_map}
use Rattle.kb_io.specs.Lines.{longest_line}
use Rattle.kb_logic.specs.declared.vocabularies.Vocabulary.{Vocabulary}
use Rattle.kb_logic.specs.Bases.{Base}
use Rattle.consult_text.specs.Lines.{IsBlank, HasCommand, HasRefusal}
use Rattle.consult_text.specs.Texts.{reply_text}
use Rattle.consult_text.specs.declared.refusals.F.TheVariants as refusal
use Rattle.consult_text.specs.declared.replies.Reply.{Reply}
use Rattle.consult_text.specs.declared.replies.Reply.TheVariants as reply
use Rattle.consult_text.specs.RightReplies.{RightReply}
use Rattle.consult_text.specs.States.{State, state_after}
use Rattle.consultant_session.specs.Commands.{IsSearched}
use Rattle.consultation.specs.declared.said.Said.{Said}
use Rattle.consultation.specs.declared.said.Said.TheVariants as said

-- A blank line is answered by nothing, a line of more than 65,536 bytes by that, a line whose text is refused by the
-- refusal, and a command by a reply that is right in the state, and that is undecided only where clauses were learnt.
abbrev pub IsRightAnswer : Base → State → List ℕ → Said → Type 0
IsRightAnswer kb s line said.Nothing = (length line ≤ longest_line) × IsBlank line
IsRightAnswer kb s line said.TooLong = longest_line < length line
IsRightAnswer kb s line (said.Refused f) = (length line ≤ longest_line) × HasRefusal kb line f
IsRightAnswer kb s line (said.Replied c r) = (length line ≤ longest_line) × HasCommand kb line c × RightReply kb s c r
    × IsSearched kb r

-- the state that it leaves: only a command changes it
abbrev pub state_left : Base → State → Said → State
state_left kb s said.Nothing = s
state_left kb s said.TooLong = s
state_left kb s (said.Refused f) = s
state_left kb s (said.Replied c r) = state_after kb s c

-- the reply that is printed, if any
abbrev pub reply_of : Said → Option Reply
reply_of said.Nothing = None
reply_of said.TooLong = Some (reply.Refused refusal.LineTooLong)
reply_of (said.Refused f) = Some (reply.Refused f)
reply_of (said.Replied c r) = Some r

-- its bytes
abbrev pub said_text : Vocabulary → Said → List ℕ
said_text vocab said.Nothing = []
said_text vocab said.TooLong = reply_text vocab (reply.Refused refusal.LineTooLong)
said_text vocab (said.Refused f) = reply_text vocab (reply.Refused f)
said_text vocab (said.Replied c r) = reply_text vocab r

-- the bytes of what was said
abbrev pub said_texts : Base → List Said → List ℕ
said_texts kb said = flat_map (said_text kb.vocabulary) said

-- From the state s, each line has its right answer, in the state that the lines before it left; the last one leaves t.
abbrev pub Consultation : Base → State → List (List ℕ) → List Said → State → Type 0
Consultation kb s [] [] t = t ≡ s
Consultation kb s [] (said ∷ more) t = ⊥
Consultation kb s (line ∷ lines) [] t = ⊥
Consultation kb s (line ∷ lines) (said ∷ more) t = IsRightAnswer kb s line said × Consultation kb
    (state_left kb s said) lines more t
