use Rattle.std.proofs.Common.{◌∙◌, sym, ap}
use Rattle.std.specs.List.{list_any}
use Rattle.kb_logic.specs.Denotations.{denotation_of, same_value}
use Rattle.kb_logic.specs.Structures.{domain_at}
use Rattle.partial_structures.proofs.Contained.{stands, longer_tuple, on_weaker}
use Rattle.logic_call_tests.proofs.conditions.+is_tuple.Goals as goal

pub returns-then-stands_in : goal.returns-then-stands_in
returns-then-stands_in t c =
    let arg = c.in-Some-split_first.arg.now in
    let ty = c.in-Some.ty.now in
    on_weaker c.is_tuple.result _ _ (λ d.
    rw (c.in-Some.ensures.cases.0, c.in-Some-split_first.ensures.cases.0)
    (longer_tuple c.args.domains.now ty c.in-Some.types.now arg c.in-Some-split_first.args.now
    (stands arg (domain_at c.args.domains.now ty) (sym (c.stands_in.ensures
    ∙ ap (list_any (λ y. same_value (denotation_of y) (denotation_of arg))) c.domain_in.ensures)
    ∙ c.if-stands_in.true)) d)) c.is_tuple.ensures
