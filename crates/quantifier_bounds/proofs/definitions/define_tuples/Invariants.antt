use Rattle.std.proofs.Common.{◌≡◌, drop, map, slice_get, Some}
use Rattle.std.specs.List.{AllByRecursion, Contains}
use Rattle.kb_logic.specs.Structures.{tuples_of}
use Rattle.kb_logic.specs.Views.{rule_view}
use Rattle.quantifier_bounds.specs.Fits.{RuleFits}
use Rattle.quantifier_bounds.specs.Rules.{definition_of, TupleDerives}
use Rattle.quantifier_bounds.proofs.Orders.{ordered}
use Rattle.quantifier_bounds.proofs.Steps.{SoFar}
use Rattle.quantifier_bounds.proofs.Values.{Every}
use Rattle.quantifier_bounds.proofs.definitions.define_tuples.Given as goal

-- the tuples that are left stand for all
abbrev pub invariant-loop-turn : goal.invariant-loop-turn
invariant-loop-turn l = record {
  domains : l.setting.domains.now ≡ l.known.domains;
  there : slice_get l.known.symbols l.symbol ≡ Some l.declared;
  tuples : AllByRecursion (Contains (tuples_of l.known.domains l.declared.args))
      (drop l.turn (ordered l.setting.falling l.tuples));
  fits : AllByRecursion (RuleFits l.known.symbols l.known.domains) (map rule_view l.rules);
  so_far : SoFar l.fn.known l.known l.changed
      (Every (λ r q. TupleDerives q (definition_of l.rules) l.symbol l.declared.value r) l.tuples)
      (Every (λ r q. TupleDerives q (definition_of l.rules) l.symbol l.declared.value r)
      (drop l.turn (ordered l.setting.falling l.tuples)));
}
