use Rattle.std.proofs.Common.{◌≡◌, drop, fold, true}
use Rattle.std.specs.List.{AllByRecursion}
use Rattle.kb_logic.specs.Models.{IsAtomOver}
use Rattle.partial_structures.specs.KnownAtoms.{value_at}
use Rattle.bound_laws.specs.Closures.{opposes, value_atom}
use Rattle.quantifier_bounds.specs.Walks.{left_with}
use Rattle.quantifier_bounds.specs.declared.left.Left.TheVariants.{None}
use Rattle.quantifier_bounds.proofs.functions.values_left.Given as goal

-- the values that are left to look at
abbrev pub invariant-loop-at : goal.invariant-loop-at
invariant-loop-at l =
    record {
      over : AllByRecursion (λ x. IsAtomOver l.known.symbols l.known.domains (value_atom l.symbol l.args x))
          (drop l.at l.values);
      left : fold (λ u x. left_with u (opposes true (value_at l.known (value_atom l.symbol l.args x)))) l.left
          (drop l.at l.values) ≡ fold (λ u x. left_with u (opposes true (value_at l.known
          (value_atom l.symbol l.args x)))) None l.values;
    }
