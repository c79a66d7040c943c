use Rattle.std.proofs.Common.{◌≡◌, take, map}
use Rattle.kb_logic.specs.Views.{rule_view}
use Rattle.kb_logic.proofs.copies.ListOf+Rule.copy.Given as goal

abbrev pub invariant-loop-rule : goal.invariant-loop-rule
invariant-loop-rule l = map rule_view l.copies.items ≡ map rule_view (take l.rule-index l.rule-items)
