use Rattle.std.proofs.Common.{◌≡◌, map, drop}
use Rattle.kb_logic.specs.Trees.{terms_of}
use Rattle.kb_logic.specs.Views.{term_view}
use Rattle.plain_evaluation.specs.Environments.{env_view}
use Rattle.certain_truth.specs.Certainty.{known_values}
use Rattle.certain_truth.specs.KnownArithmetic.{ValuesFit}
use Rattle.quantifier_bounds.specs.Rules.{is_row}
use Rattle.quantifier_bounds.proofs.heads.are_elements.Given as goal

-- what is left to compare decides
abbrev pub invariant-loop-at : goal.invariant-loop-at
invariant-loop-at l = record {
  fits : ValuesFit l.known (terms_of (map term_view (drop l.at l.terms))) (env_view l.env);
  rest : is_row (known_values l.known (terms_of (map term_view (drop l.at l.terms))) (env_view l.env))
      (drop l.at l.elems) ≡ is_row (known_values l.known (terms_of (map term_view l.terms)) (env_view l.env)) l.elems;
}
