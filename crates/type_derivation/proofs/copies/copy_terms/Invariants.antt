use Rattle.std.proofs.Common.{◌≡◌, map, take}
use Rattle.type_derivation.specs.TypedViews.{named_term_view}
use Rattle.type_derivation.proofs.copies.copy_terms.Given as goal

abbrev pub invariant-loop-term : goal.invariant-loop-term
invariant-loop-term l = map named_term_view l.copies.items ≡ map named_term_view (take l.term-index l.terms)
