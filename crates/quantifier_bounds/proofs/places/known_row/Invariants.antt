use Rattle.std.proofs.Common.{drop, map}
use Rattle.kb_logic.specs.Trees.{terms_of}
use Rattle.kb_logic.specs.Views.{term_view}
use Rattle.plain_evaluation.specs.Environments.{env_view}
use Rattle.certain_truth.specs.KnownArithmetic.{ValuesFit}
use Rattle.quantifier_bounds.proofs.Rows.{RowSoFar}
use Rattle.quantifier_bounds.proofs.places.known_row.Given as goal

-- what is left gives the whole
abbrev pub invariant-loop-at : goal.invariant-loop-at
invariant-loop-at l = record {
  fits : ValuesFit l.known (terms_of (map term_view (drop l.at l.terms))) (env_view l.env);
  row : RowSoFar l.known (env_view l.env) l.types (map term_view l.terms) (drop l.at l.types)
      (map term_view (drop l.at l.terms)) l.row;
}
