use Rattle.std.proofs.Common.{◌≡◌, map, take}
use Rattle.grammar.specs.BlockView.{rule_view}
use Rattle.stage_definitions.specs.Uses.{head_word}
use Rattle.rule_names.proofs.definitions.defined_names.Given as goal

abbrev pub invariant-loop-rule : goal.invariant-loop-rule
invariant-loop-rule l = l.defined ≡ map head_word (map rule_view (take l.rule-index l.rules))
