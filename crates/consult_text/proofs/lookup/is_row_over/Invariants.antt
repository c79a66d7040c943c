use Rattle.std.proofs.Common.{drop}
use Rattle.consult_text.proofs.Rows.{SameRest}
use Rattle.consult_text.proofs.lookup.is_row_over.Given as goal

abbrev pub invariant-loop-place : goal.invariant-loop-place
invariant-loop-place l = SameRest l.known.domains l.types l.row (drop l.place l.types) (drop l.place l.row)
