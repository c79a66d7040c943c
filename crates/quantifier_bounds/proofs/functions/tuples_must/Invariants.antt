use Rattle.std.proofs.Common.{drop}
use Rattle.std.specs.List.{AllByRecursion}
use Rattle.kb_logic.specs.Models.{IsAtomOver}
use Rattle.bound_laws.specs.Closures.{value_atom}
use Rattle.quantifier_bounds.specs.Walks.{HasLone}
use Rattle.quantifier_bounds.proofs.Steps.{SoFar}
use Rattle.quantifier_bounds.proofs.Values.{Every}
use Rattle.quantifier_bounds.proofs.functions.tuples_must.Given as goal

-- the tuples that are left stand for all
abbrev pub invariant-loop-at : goal.invariant-loop-at
invariant-loop-at l = record {
  over : AllByRecursion (λ r. AllByRecursion (λ x. IsAtomOver l.known.symbols l.known.domains (value_atom l.symbol r x))
      l.values) (drop l.at l.tuples);
  so_far : SoFar l.fn.known l.known l.changed (Every (λ r q. HasLone q l.symbol r l.values) l.tuples)
      (Every (λ r q. HasLone q l.symbol r l.values) (drop l.at l.tuples));
}
