use Rattle.std.proofs.Common.{◌≡◌, ◌∙◌, ◌++◌, List, ap, subst, sym}
use Rattle.std.proofs.lemmas.Result.{on_ok_weaker}
use Rattle.kb_logic.specs.declared.structures.Literal.{Literal}
use Rattle.kb_logic.specs.declared.vocabularies.Vocabulary.{Vocabulary}
use Rattle.consult_base.specs.Opened.{base_of}
use Rattle.verified_claims.specs.declared.said.SaidClaim.{SaidClaim}
use Rattle.verified_claims.specs.ClaimLines.{choices_text, claim_text}
use Rattle.verified_claims.proofs.LineFacts.{three-parts}
use Rattle.verified_claims.proofs.lines.push_claim_text.Goals as goal

pub returns-in_ok-push_bytes-in-Inconsistent : goal.returns-in_ok-push_bytes-in-Inconsistent
returns-in_ok-push_bytes-in-Inconsistent c =
    on_ok_weaker c.push_choices.result
    (λ e. subst (λ (s : SaidClaim). c.push_choices.new.out.items
    ≡ c.args.out.now.items ++ claim_text (base_of c.args.kb.now) s) (sym c.in-Inconsistent.is)
    (three-parts _ _ _ _ _ _ _ c.in_ok-push_label-in-Inconsistent.ensures c.in_ok-push_bytes-in-Inconsistent.ensures
    (e ∙ ap (λ (v : Vocabulary). c.push_bytes.new.out.items ++ choices_text v c.as_slice.result.now)
    c.vocabulary.ensures.vocabulary
    ∙ ap (λ (ls : List Literal). c.push_bytes.new.out.items ++ choices_text c.args.kb.now.typed.vocab ls)
    c.as_slice.ensures)))
    c.push_choices.ensures
