use Rattle.std.proofs.Common.{◌∙◌, sym}
use Rattle.partial_structures.proofs.Contained.{stands_not, on_weaker}
use Rattle.logic_call_tests.proofs.conditions.+is_distinct.Goals as goal

pub returns-then-not-stands_in : goal.returns-then-not-stands_in
returns-then-not-stands_in t c =
    on_weaker c.is_distinct.result _ _ (λ d. rw c.in-Some.ensures.cases.0
    (stands_not c.in-Some.first.now c.in-Some.rest.now (sym c.stands_in.ensures ∙ c.if-not-stands_in.true), d))
    c.is_distinct.ensures
