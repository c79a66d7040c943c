use Rattle.std.proofs.Common.{◌≡◌, ◌++◌, drop, map}
use Rattle.kb_logic.specs.Views as view
use Rattle.stage_definitions.specs.NamedTrees as named_tree
use Rattle.stage_definitions.specs.TermPlaces.{each_begins, formulas_begin, summands_begin}
use Rattle.stage_definitions.specs.NamedViews.{formula_view, signed_view, term_view}
use Rattle.type_derivation.specs.ListedTrees as listed
use Rattle.type_derivation.specs.TreeLists.{then_formulas, then_terms, then_summands}
use Rattle.type_derivation.proofs.trees.+trees.Given as goal

abbrev pub invariant-formulas-loop-operand : goal.invariant-formulas-loop-operand
invariant-formulas-loop-operand l = record {
  trees : then_formulas (map view.formula_view l.operands.items)
      (listed.listed_formulas l.types (named_tree.formulas_of (map formula_view (drop l.operand-index l.named))))
      ≡ listed.listed_formulas l.initial.types (named_tree.formulas_of (map formula_view l.named));
  types : listed.left_formulas l.types (named_tree.formulas_of (map formula_view (drop l.operand-index l.named)))
      ≡ listed.left_formulas l.initial.types (named_tree.formulas_of (map formula_view l.named));
  places : l.places.items ++ formulas_begin (named_tree.formulas_of (map formula_view (drop l.operand-index l.named)))
      ≡ l.initial.places.items ++ formulas_begin (named_tree.formulas_of (map formula_view l.named));
}

abbrev pub invariant-terms-loop-operand : goal.invariant-terms-loop-operand
invariant-terms-loop-operand l = record {
  trees : then_terms (map view.term_view l.operands.items) (listed.listed_terms l.types
      (named_tree.terms_of (map term_view (drop l.operand-index l.named))))
      ≡ listed.listed_terms l.initial.types (named_tree.terms_of (map term_view l.named));
  types : listed.left_terms l.types (named_tree.terms_of (map term_view (drop l.operand-index l.named)))
      ≡ listed.left_terms l.initial.types (named_tree.terms_of (map term_view l.named));
  places : l.places.items ++ each_begins (named_tree.terms_of (map term_view (drop l.operand-index l.named)))
      ≡ l.initial.places.items ++ each_begins (named_tree.terms_of (map term_view l.named));
}

abbrev pub invariant-summands-loop-operand : goal.invariant-summands-loop-operand
invariant-summands-loop-operand l = record {
  trees : then_summands (map view.signed_view l.operands.items)
      (listed.listed_summands l.types (named_tree.summands_of (map signed_view (drop l.operand-index l.named))))
      ≡ listed.listed_summands l.initial.types (named_tree.summands_of (map signed_view l.named));
  types : listed.left_summands l.types (named_tree.summands_of (map signed_view (drop l.operand-index l.named)))
      ≡ listed.left_summands l.initial.types (named_tree.summands_of (map signed_view l.named));
  places : l.places.items ++ summands_begin (named_tree.summands_of (map signed_view (drop l.operand-index l.named)))
      ≡ l.initial.places.items ++ summands_begin (named_tree.summands_of (map signed_view l.named));
}
