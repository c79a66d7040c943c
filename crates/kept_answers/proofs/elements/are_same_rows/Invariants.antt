use Rattle.std.proofs.Common.{◌≡◌, drop}
use Rattle.consult_text.specs.States.{same_row}
use Rattle.kept_answers.proofs.elements.are_same_rows.Given as goal

abbrev pub invariant-loop-i : goal.invariant-loop-i
invariant-loop-i l = same_row (drop l.i l.a) (drop l.i l.b) ≡ same_row l.a l.b
