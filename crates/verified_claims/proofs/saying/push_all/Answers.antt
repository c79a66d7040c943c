use Rattle.std.proofs.Common.{List, [], arith, sym, subst}
use Rattle.std.proofs.lemmas.List.{take_all, append-nil}
use Rattle.consult_base.specs.Opened.{base_of}
use Rattle.derivation_log.specs.declared.claims.Claim.{Claim}
use Rattle.verified_claims.specs.RightClaims.{HasLinesOf}
use Rattle.verified_claims.proofs.LineFacts.{has-more}
use Rattle.verified_claims.proofs.saying.push_all.Goals as goal

pub loop-claim-init : goal.loop-claim-init
loop-claim-init c = ([], tt, sym (append-nil c.args.out.now.items))

pub loop-claim-preserved : goal.loop-claim-preserved
loop-claim-preserved c =
    has-more (base_of c.args.kb.now) c.args.claims.now c.loop-claim.claim-index c.claim-item.result
    c.loop-claim-test.true c.claim-item.is c.args.out.now.items c.loop-claim.out.items c.push_said.new.out.items
    c.loop-claim.invariant c.in_ok-push_said.ensures

pub returns : goal.returns
returns c =
    subst (λ (cs : List Claim). HasLinesOf (base_of c.args.kb.now) cs c.args.out.now.items c.loop-claim.out.items)
    (take_all c.loop-claim.claim-index c.args.claims.now (omega (arith, c.loop-claim-test.false)))
    c.loop-claim.invariant
