use Rattle.std.proofs.lemmas.Result.{IfErr-weaker, IfOk-weaker}
use Rattle.consult_base.specs.Opened.{base_of}
use Rattle.verified_claims.specs.RightClaims.{AreClaimsOf}
use Rattle.verified_claims.specs.Verdicts.{IsLogError}
use Rattle.verified_claims.proofs.checking.claims_of.Goals as goal

pub returns-clause-claims : goal.returns-clause-claims
returns-clause-claims c =
    IfOk-weaker c.claims_over.result _ (λ claims. AreClaimsOf (base_of c.args.kb.now) c.args.log.now claims.list)
    (λ claims told. told (base_of c.args.kb.now) c.in-Ok.ensures.problem c.in-Ok.ensures.theory
    c.in-Ok.ensures.grounding)
    c.claims_over.ensures.claims

pub returns-clause-error : goal.returns-clause-error
returns-clause-error c =
    IfErr-weaker c.claims_over.result _ (IsLogError (base_of c.args.kb.now) c.args.log.now)
    (λ error told. told (base_of c.args.kb.now) c.in-Ok.ensures.problem)
    c.claims_over.ensures.error
