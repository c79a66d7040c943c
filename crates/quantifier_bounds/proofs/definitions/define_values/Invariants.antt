use Rattle.std.proofs.Common.{drop, map}
use Rattle.std.specs.List.{AllByRecursion}
use Rattle.kb_logic.specs.Models.{IsAtomOver}
use Rattle.kb_logic.specs.Views.{rule_view}
use Rattle.bound_laws.specs.Closures.{value_atom}
use Rattle.quantifier_bounds.specs.Fits.{RuleFits}
use Rattle.quantifier_bounds.specs.Rules.{definition_of, Derives}
use Rattle.quantifier_bounds.proofs.Steps.{SoFar}
use Rattle.quantifier_bounds.proofs.Values.{Every}
use Rattle.quantifier_bounds.proofs.definitions.define_values.Given as goal

-- the values that are left stand for all
abbrev pub invariant-loop-at : goal.invariant-loop-at
invariant-loop-at l = record {
  over : AllByRecursion (λ x. IsAtomOver l.known.symbols l.known.domains (value_atom l.symbol l.args x))
      (drop l.at l.values);
  fits : AllByRecursion (RuleFits l.known.symbols l.known.domains) (map rule_view l.defining.rules.now);
  so_far : SoFar l.fn.known l.known l.changed
      (Every (λ x q. Derives q (definition_of l.defining.rules.now) (value_atom l.symbol l.args x)) l.values)
      (Every (λ x q. Derives q (definition_of l.defining.rules.now) (value_atom l.symbol l.args x))
      (drop l.at l.values));
}
