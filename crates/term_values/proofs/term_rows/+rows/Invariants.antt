use Rattle.std.proofs.Common.{◌≡◌, ◌≤◌, map, drop, length}
use Rattle.plain_evaluation.specs.Environments.{env_view}
use Rattle.kb_logic.specs.Trees.{terms_of}
use Rattle.kb_logic.specs.Views.{term_view, signed_view}
use Rattle.term_values.specs.Rows.{rows_of_terms}
use Rattle.term_values.specs.RowSums.{operands_of}
use Rattle.term_values.proofs.term_rows.+rows.Given as goal

abbrev pub invariant-put_operands-loop-left : goal.invariant-put_operands-loop-left
invariant-put_operands-loop-left l = record {
  rows : l.out ≡ rows_of_terms l.base (operands_of (map signed_view (drop l.left l.parts))) (env_view l.env);
  within : l.left ≤ length l.parts;
}

abbrev pub decreases-put_operands-loop-left : goal.decreases-put_operands-loop-left
decreases-put_operands-loop-left l = l.left

abbrev pub invariant-put_terms-loop-left : goal.invariant-put_terms-loop-left
invariant-put_terms-loop-left l = record {
  rows : l.out ≡ rows_of_terms l.base (terms_of (map term_view (drop l.left l.terms))) (env_view l.env);
  within : l.left ≤ length l.terms;
}

abbrev pub decreases-put_terms-loop-left : goal.decreases-put_terms-loop-left
decreases-put_terms-loop-left l = l.left
