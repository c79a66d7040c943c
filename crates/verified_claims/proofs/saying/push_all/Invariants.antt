use Rattle.std.proofs.Common.{take}
use Rattle.consult_base.specs.Opened.{base_of}
use Rattle.verified_claims.specs.RightClaims.{HasLinesOf}
use Rattle.verified_claims.proofs.saying.push_all.Given as goal

abbrev pub invariant-loop-claim : goal.invariant-loop-claim
invariant-loop-claim l =
    HasLinesOf (base_of l.kb) (take l.claim-index l.claims) l.initial.out.items l.out.items
