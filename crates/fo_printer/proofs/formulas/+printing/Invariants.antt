use Rattle.std.proofs.Common.{◌≡◌, ◌++◌, take, flat_map}
use Rattle.kb_logic.specs.Views.{formula_view, term_view, signed_view}
use Rattle.printed_texts.specs.Formulas.{add_text}
use Rattle.printed_texts.specs.FormulaTexts.{spaced_text}
use Rattle.printed_texts.specs.FormulaPrints.{formula_text, term_text}
use Rattle.fo_printer.proofs.formulas.+printing.Given as goal

abbrev pub invariant-push_formulas-loop-formula : goal.invariant-push_formulas-loop-formula
invariant-push_formulas-loop-formula l = record {
  text : l.out.items ≡ l.initial.out.items ++ flat_map (λ f. l.sep ++ formula_text l.vocab l.fn.scope.items
      (formula_view f)) (take l.formula-index l.others);
  same : l.scope.items ≡ l.fn.scope.items;
}

abbrev pub invariant-push_terms-loop-term : goal.invariant-push_terms-loop-term
invariant-push_terms-loop-term l = record {
  text : l.out.items ≡ l.initial.out.items ++ flat_map (λ t. l.sep ++ term_text l.vocab l.fn.scope.items (term_view t))
      (take l.term-index l.others);
  same : l.scope.items ≡ l.fn.scope.items;
}

abbrev pub invariant-push_summands-loop-part : goal.invariant-push_summands-loop-part
invariant-push_summands-loop-part l = record {
  text : l.out.items ≡ l.initial.out.items ++ flat_map (λ s. spaced_text (add_text (signed_view s).0) ++ term_text
      l.vocab l.fn.scope.items (signed_view s).1) (take l.part-index l.others);
  same : l.scope.items ≡ l.fn.scope.items;
}
