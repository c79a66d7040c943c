use Rattle.std.proofs.Common.{length}
use Rattle.refusal_notes.proofs.signs.has_sign.Given as goal

abbrev pub decreases-loop-sign : goal.decreases-loop-sign
decreases-loop-sign l = length l.rest
