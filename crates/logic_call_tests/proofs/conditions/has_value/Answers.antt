use Rattle.std.proofs.Common.{◌∙◌, sym, ap}
use Rattle.std.specs.List.{list_any}
use Rattle.std.proofs.lemmas.Bool.{OnTrue_from}
use Rattle.kb_logic.specs.Denotations.{denotation_of, same_value}
use Rattle.kb_logic.specs.Structures.{domain_at}
use Rattle.partial_structures.proofs.Contained.{stands}
use Rattle.logic_call_tests.proofs.conditions.has_value.Goals as goal

pub returns-in-Some-Some : goal.returns-in-Some-Some
returns-in-Some-Some c =
    OnTrue_from c.stands_in.result _ (λ h.
    rw (c.in-Some-Some.is-0, c.in-Some-Some.is-1)
    (stands c.in-Some-Some.value (domain_at c.args.domains.now c.in-Some-Some.ty)
    (sym (c.stands_in.ensures ∙ ap (list_any (λ y. same_value (denotation_of y)
    (denotation_of c.in-Some-Some.value))) c.domain_in.ensures) ∙ h)))
