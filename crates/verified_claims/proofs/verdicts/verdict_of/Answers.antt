use Rattle.std.proofs.Common.{List, subst}
use Rattle.consult_base.specs.Opened.{base_of}
use Rattle.derivation_log.specs.declared.claims.Claim.{Claim}
use Rattle.verified_claims.specs.RightClaims.{IsTextOf}
use Rattle.verified_claims.proofs.LineFacts.{is-verdict}
use Rattle.verified_claims.proofs.verdicts.verdict_of.Goals as goal

pub returns-in-Ok-clause-verdict : goal.returns-in-Ok-clause-verdict
returns-in-Ok-clause-verdict c =
    is-verdict (base_of c.args.kb.now) c.args.log.now c.in-Ok.text.items c.in_ok-claims.claims.list
    c.in_ok-claims.ensures.claims
    (subst (λ (cs : List Claim). IsTextOf (base_of c.args.kb.now) cs c.in-Ok.text.items) c.as_slice.ensures
    c.in-Ok.ensures)
