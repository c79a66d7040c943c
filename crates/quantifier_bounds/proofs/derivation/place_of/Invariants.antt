use Rattle.quantifier_bounds.proofs.Fixed.{NoneBefore}
use Rattle.quantifier_bounds.proofs.derivation.place_of.Given as goal

-- none of the elements before is it
abbrev pub invariant-loop-at : goal.invariant-loop-at
invariant-loop-at l = NoneBefore l.domain l.elem l.at
