use Rattle.std.proofs.Common.{◌≡◌, take, map}
use Rattle.kb_logic.specs.Views.{formula_view, term_view, signed_view}
use Rattle.kb_logic.proofs.copies.+copies.Given as goal

abbrev pub invariant-copy_formulas-loop-formula : goal.invariant-copy_formulas-loop-formula
invariant-copy_formulas-loop-formula l = map formula_view l.copies.items ≡ map formula_view
    (take l.formula-index l.formulas)

abbrev pub invariant-copy_terms-loop-term : goal.invariant-copy_terms-loop-term
invariant-copy_terms-loop-term l = map term_view l.copies.items ≡ map term_view (take l.term-index l.terms)

abbrev pub invariant-copy_summands-loop-part : goal.invariant-copy_summands-loop-part
invariant-copy_summands-loop-part l = map signed_view l.copies.items ≡ map signed_view (take l.part-index l.parts)
