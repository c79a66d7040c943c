use Rattle.std.proofs.Common.{◌≡◌, drop}
use Rattle.std.specs.List.{list_any}
use Rattle.kb_logic.specs.Denotations.{denotation_of, same_value}
use Rattle.logic_call_tests.proofs.conditions.stands_in.Given as goal

abbrev pub invariant-loop-other : goal.invariant-loop-other
invariant-loop-other l =
    list_any (λ y. same_value (denotation_of y) (denotation_of l.elem)) (drop l.other-index l.domain)
    ≡ list_any (λ y. same_value (denotation_of y) (denotation_of l.elem)) l.domain
