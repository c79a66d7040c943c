use Rattle.std.proofs.Common.{sym, ◌∙◌, inl}
use Rattle.kb_text.specs.Pieces.{Blank}
use Rattle.kb_text.proofs.Pieces.{digits_found, blank_found, refused_found, unknown_found}
use Rattle.kb_text.proofs.piece.piece.Goals as goal

pub returns-in-Space : goal.returns-in-Space
returns-in-Space c = (Blank, tt, blank_found c.args.bytes.now c.requires (sym c.class_of.ensures ∙ c.in-Space.is))

pub returns-in-Digit : goal.returns-in-Digit
returns-in-Digit c = rw c.digits_len.ensures (digits_found c.args.bytes.now c.requires (sym c.class_of.ensures
    ∙ c.in-Digit.is))

pub returns-in-Refused : goal.returns-in-Refused
returns-in-Refused c = inl (refused_found c.args.bytes.now c.requires (sym c.class_of.ensures ∙ c.in-Refused.is))

pub returns-in-Unknown : goal.returns-in-Unknown
returns-in-Unknown c = inl (unknown_found c.args.bytes.now c.requires (sym c.class_of.ensures ∙ c.in-Unknown.is))
