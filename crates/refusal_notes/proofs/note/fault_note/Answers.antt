use Rattle.std.proofs.Common.{rules}
use Rattle.refusal_notes.proofs.note.fault_note.Goals as goal

pub returns : goal.returns
returns c = record { wording = c.in_ok-wording.wording; whole = search rules }
