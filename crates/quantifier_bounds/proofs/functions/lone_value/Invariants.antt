use Rattle.std.proofs.Common.{◌≡◌, drop}
use Rattle.std.specs.List.{AllByRecursion}
use Rattle.kb_logic.specs.Models.{IsAtomOver}
use Rattle.bound_laws.specs.Closures.{value_atom}
use Rattle.quantifier_bounds.proofs.Values.{Before}
use Rattle.quantifier_bounds.proofs.functions.lone_value.Given as goal

-- the values before are lost
abbrev pub invariant-loop-at : goal.invariant-loop-at
invariant-loop-at l = record {
  over : AllByRecursion (λ x. IsAtomOver l.known.symbols l.known.domains (value_atom l.symbol l.args x))
      (drop l.at l.values);
  same : l.known ≡ l.fn.known;
  before : Before l.fn.known l.symbol l.args l.values (drop l.at l.values);
}
