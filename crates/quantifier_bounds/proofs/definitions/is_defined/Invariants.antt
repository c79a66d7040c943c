use Rattle.std.proofs.Common.{◌≡◌, ◌==◌, drop, map}
use Rattle.std.specs.List.{list_any}
use Rattle.kb_logic.specs.Trees.{RuleTree}
use Rattle.kb_logic.specs.Views.{rule_view}
use Rattle.quantifier_bounds.proofs.definitions.is_defined.Given as goal

-- the rules that are left decide
abbrev pub invariant-loop-at : goal.invariant-loop-at
invariant-loop-at l =
    list_any (λ (r : RuleTree). r.symbol == l.symbol) (map rule_view (drop l.at l.rules))
    ≡ list_any (λ (r : RuleTree). r.symbol == l.symbol) (map rule_view l.rules)
