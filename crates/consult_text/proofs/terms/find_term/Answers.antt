use Rattle.std.proofs.Common.{◌∙◌, ap, sym, ℕ, Some}
use Rattle.type_derivation.specs.declared.typed.TypedKb.{TypedKb}
use Rattle.consult_text.proofs.TermNumbers.{number_among}
use Rattle.consult_text.proofs.terms.find_term.Goals as goal

pub returns-in_default : goal.returns-in_default
returns-in_default c =
    number_among c.args.kb.now c.as_slice.result.now c.args.name.now
    (c.as_slice.ensures ∙ ap (λ (t : TypedKb). t.terms) c.typed.ensures.typed) ∙ (sym c.named.ensures ∙ c.in_default.is)

pub returns-in-Ok : goal.returns-in-Ok
returns-in-Ok c =
    number_among c.args.kb.now c.as_slice.result.now c.args.name.now
    (c.as_slice.ensures ∙ ap (λ (t : TypedKb). t.terms) c.typed.ensures.typed)
    ∙ (sym c.named.ensures ∙ (c.in-Some.is ∙ ap (λ (n : ℕ). Some n) (sym c.in-Ok.ensures.1)))
