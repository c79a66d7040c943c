use Rattle.std.proofs.Common.{◌≡◌, ◌≤◌, ◌^◌, length}
use Rattle.bound_laws.specs.Closures.{ObeysFunctions}
use Rattle.quantifier_bounds.specs.Walks.{SymbolHas}
use Rattle.quantifier_bounds.proofs.Steps.{SoFar}
use Rattle.quantifier_bounds.proofs.Values.{From}
use Rattle.quantifier_bounds.proofs.functions.functions_must.Given as goal

-- the symbols that are left stand for all
abbrev pub invariant-loop-at : goal.invariant-loop-at
invariant-loop-at l = record {
  symbols : l.setting.symbols.now ≡ l.known.symbols;
  domains : l.setting.domains.now ≡ l.known.domains;
  few : length l.known.symbols ≤ 2 ^ 32;
  so_far : SoFar l.fn.known l.known l.changed ObeysFunctions
      (From (λ s d q. SymbolHas q s d) l.setting.symbols.now l.at);
}
