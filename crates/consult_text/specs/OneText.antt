-- The replies over a knowledge base, and that no two of them have one text.
use Rattle.std.specs.Prelude.{◌≡◌, ◌<◌, ◌^◌, ◌++◌, ◌⊎◌, ℕ, List, nat_abs, map, ⊤}
use Rattle.std.specs.List.{AllByRecursion}
use Rattle.kb_logic.specs.declared.elements.Elem.{Elem}
use Rattle.kb_logic.specs.declared.elements.Elem.TheVariants.{Named, Num}
use Rattle.kb_logic.specs.declared.elements.ExtInt.{ExtInt}
use Rattle.kb_logic.specs.declared.elements.ExtInt.TheVariants as ext
use Rattle.kb_logic.specs.declared.elements.ExtInt.TheVariants.{NegInf, PosInf}
use Rattle.kb_logic.specs.declared.structures.Structure.{Structure}
use Rattle.kb_logic.specs.Bases.{Base}
use Rattle.kb_logic.specs.Structures.{IsDistinct, IsStructure}
use Rattle.kb_text.specs.Pieces.{IsPiece, WordText}
use Rattle.consult_text.specs.Literals.{IsLiteralOver}
use Rattle.consult_text.specs.Replies.{IsReplyTo}
use Rattle.consult_text.specs.Texts.{reply_text}
use Rattle.consult_text.specs.declared.commands.Command.{Command}
use Rattle.consult_text.specs.declared.replies.Reply.{Reply}
use Rattle.consult_text.specs.declared.replies.Reply.TheVariants as reply

-- a letter or `_`, followed by letters, digits and `_`; or an integer that can be written, with or without a minus
abbrev pub CanBeWritten : Elem → Type 0
CanBeWritten (Named name) = IsPiece WordText name
CanBeWritten (Num n) = nat_abs n < 2 ^ 63

-- symbols and elements are words, no two symbols have one name, and integers have at most 63 bits
pub record HasWordNames (kb : Base) : Type 0 where
  pub words : AllByRecursion (λ s. IsPiece WordText s.name) kb.vocabulary.symbols
  pub apart : IsDistinct (map (λ s. s.name) kb.vocabulary.symbols)
  pub elements : AllByRecursion (AllByRecursion CanBeWritten) kb.known.domains

-- a structure over the knowledge base's domains
abbrev pub IsStructureOver : Base → Structure → Type 0
IsStructureOver kb m = IsStructure kb.vocabulary m × (m.domains ≡ kb.known.domains)

-- a reply over the knowledge base: its literals and models are over it, and a budget has 64 bits
abbrev pub IsReplyOver : Base → Reply → Type 0
IsReplyOver kb reply.Fine = ⊤
IsReplyOver kb (reply.Refused f) = ⊤
IsReplyOver kb (reply.Choices ls) = AllByRecursion (IsLiteralOver kb) ls
IsReplyOver kb (reply.Model m) = IsStructureOver kb m
IsReplyOver kb (reply.Models ms all) = AllByRecursion (IsStructureOver kb) ms
IsReplyOver kb (reply.Forced ls) = AllByRecursion (IsLiteralOver kb) ls
IsReplyOver kb (reply.Minimum v m) = IsStructureOver kb m
IsReplyOver kb (reply.Supported ls) = AllByRecursion (IsLiteralOver kb) ls
IsReplyOver kb reply.Free = ⊤
IsReplyOver kb (reply.Conflict ls) = AllByRecursion (IsLiteralOver kb) ls
IsReplyOver kb reply.Consistent = ⊤
IsReplyOver kb reply.Inconsistent = ⊤
IsReplyOver kb (reply.Undecided k) = k < 2 ^ 64

-- it is infinite, or has at most 63 bits
abbrev pub IsShortValue : ExtInt → Type 0
IsShortValue NegInf = ⊤
IsShortValue (ext.Num z) = nat_abs z < 2 ^ 63
IsShortValue PosInf = ⊤

-- two minima have the same value, as all that are right, or short ones
abbrev pub HaveReadableValues : Reply → Reply → Type 0
HaveReadableValues (reply.Minimum v m) (reply.Minimum w n) = (v ≡ w) ⊎ (IsShortValue v × IsShortValue w)
HaveReadableValues _ _ = ⊤

-- No two replies to one command have one text, and none has a text that begins that of another: where two texts with
-- more bytes after them are equal, so are the replies, and so are the bytes after them.
abbrev pub NoTwoRepliesHaveOneText : Type 0
NoTwoRepliesHaveOneText =
    (kb : Base) → HasWordNames kb → (c : Command) (r s : Reply) (after after' : List ℕ)
    → IsReplyTo c r → IsReplyTo c s
    → IsReplyOver kb r → IsReplyOver kb s → HaveReadableValues r s
    → reply_text kb.vocabulary r ++ after ≡ reply_text kb.vocabulary s ++ after' → (r ≡ s) × (after ≡ after')
