use Rattle.std.proofs.Common.{◌≡◌, ◌≤◌, ◌^◌, length, drop, map}
use Rattle.std.specs.List.{AllByRecursion}
use Rattle.kb_logic.specs.Trees.{DefinitionTree}
use Rattle.kb_logic.specs.Views.{definition_view}
use Rattle.bound_laws.specs.Closures.{ObeysDefinition}
use Rattle.quantifier_bounds.specs.Fits.{RuleFits}
use Rattle.quantifier_bounds.proofs.Steps.{SoFar}
use Rattle.quantifier_bounds.proofs.Values.{Every}
use Rattle.quantifier_bounds.proofs.definitions.definitions_must.Given as goal

-- the definitions that are left stand for all
abbrev pub invariant-loop-at : goal.invariant-loop-at
invariant-loop-at l = record {
  symbols : l.setting.symbols.now ≡ l.known.symbols;
  domains : l.setting.domains.now ≡ l.known.domains;
  few : length l.known.symbols ≤ 2 ^ 32;
  fits : AllByRecursion (λ (g : DefinitionTree). AllByRecursion (RuleFits l.known.symbols l.known.domains) g.rules)
      (map definition_view (drop l.at l.definitions));
  so_far : SoFar l.fn.known l.known l.changed
      (Every (λ g q. ObeysDefinition q g) (map definition_view l.definitions))
      (Every (λ g q. ObeysDefinition q g) (map definition_view (drop l.at l.definitions)));
}
