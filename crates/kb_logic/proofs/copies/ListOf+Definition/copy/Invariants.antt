use Rattle.std.proofs.Common.{◌≡◌, take, map}
use Rattle.kb_logic.specs.Views.{definition_view}
use Rattle.kb_logic.proofs.copies.ListOf+Definition.copy.Given as goal

abbrev pub invariant-loop-definition : goal.invariant-loop-definition
invariant-loop-definition l = map definition_view l.copies.items ≡ map definition_view
    (take l.definition-index l.definition-items)
