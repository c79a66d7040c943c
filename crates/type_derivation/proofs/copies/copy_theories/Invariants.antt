use Rattle.std.proofs.Common.{◌≡◌, map, take}
use Rattle.type_derivation.specs.TypedViews.{named_theory_view}
use Rattle.type_derivation.proofs.copies.copy_theories.Given as goal

abbrev pub invariant-loop-theory : goal.invariant-loop-theory
invariant-loop-theory l = map named_theory_view l.copies.items ≡ map named_theory_view (take l.theory-index l.theories)
