use Rattle.verified_claims.proofs.ClaimFacts.{are-claims}
use Rattle.verified_claims.proofs.checking.claims_over.Goals as goal

pub returns-in-Ok-clause-claims : goal.returns-in-Ok-clause-claims
returns-in-Ok-clause-claims c = λ base is theory g.
    are-claims base c.args.problem.now c.args.log.now c.in-Ok.claims.list is theory g c.in-Ok.ensures.claims
    c.in-Ok.ensures.truth
