use Rattle.std.proofs.Common.{◌≡◌, ◌≤◌, ◌^◌, length, map}
use Rattle.std.specs.List.{AllByRecursion}
use Rattle.kb_logic.specs.Views.{rule_view}
use Rattle.bound_laws.specs.Closures.{ObeysDefinition}
use Rattle.quantifier_bounds.specs.Fits.{RuleFits}
use Rattle.quantifier_bounds.specs.Rules.{definition_of, SymbolDerives}
use Rattle.quantifier_bounds.proofs.Steps.{SoFar}
use Rattle.quantifier_bounds.proofs.Values.{From}
use Rattle.quantifier_bounds.proofs.definitions.define_all.Given as goal

-- the symbols that are left stand for all
abbrev pub invariant-loop-at : goal.invariant-loop-at
invariant-loop-at l = record {
  symbols : l.setting.symbols.now ≡ l.known.symbols;
  domains : l.setting.domains.now ≡ l.known.domains;
  few : length l.known.symbols ≤ 2 ^ 32;
  fits : AllByRecursion (RuleFits l.known.symbols l.known.domains) (map rule_view l.rules);
  so_far : SoFar l.fn.known l.known l.changed (λ q. ObeysDefinition q (definition_of l.rules))
      (From (λ s d q. SymbolDerives q (definition_of l.rules) s d) l.setting.symbols.now l.at);
}
