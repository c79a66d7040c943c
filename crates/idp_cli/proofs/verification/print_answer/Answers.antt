use Rattle.std.proofs.Common.{rules, ◌≡◌, subst}
use Rattle.consult_base.specs.Opened.{base_of}
use Rattle.verified_claims.specs.Verdicts.{IsLogError}
use Rattle.verified_claims.specs.declared.verdicts.LogError.{LogError}
use Rattle.idp_cli.proofs.VerificationLemmas.{refusal_answers, verdict_answers}
use Rattle.idp_cli.proofs.verification.print_answer.Goals as goal

pub returns-in-Err-Refused : goal.returns-in-Err-Refused
returns-in-Err-Refused g c =
    refusal_answers c.refuse_log.result c.in-Err-Refused.entry (base_of c.args.kb.now) c.args.log.now _ _ _ _
    (subst (λ (e : LogError). IsLogError (base_of c.args.kb.now) c.args.log.now e) c.in-Err-Refused.field-0-is
    c.in-Err-Refused.ensures.error) c.refuse_log.ensures

pub returns-in-Ok : goal.returns-in-Ok
returns-in-Ok g c =
    let bytes : c.deref.result.now ≡ c.in-Ok.text.items = search rules in
    verdict_answers c.print_text.result (base_of c.args.kb.now) c.args.log.now c.in-Ok.text.items _ _ _ _
    c.in-Ok.ensures.verdict (rw bytes at c.print_text.ensures)
