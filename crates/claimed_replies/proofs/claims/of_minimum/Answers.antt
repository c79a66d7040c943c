use Rattle.std.proofs.Common.{Global, Vec, ℕ}
use Rattle.std.proofs.lemmas.Result.{IfOk-weaker}
use Rattle.claimed_replies.specs.Claims.{SaysLeast}
use Rattle.claimed_replies.proofs.ClaimLemmas.{the_claim, the_least}
use Rattle.claimed_replies.proofs.claims.of_minimum.Goals as goal

pub returns : goal.returns
returns g c =
    IfOk-weaker c.text_of.result _ _
    (λ text is. the_least (λ (t : Vec ℕ Global). t.items) c.args.lits.now.items c.args.term c.args.value text
    c.in_default.not-NegInf
    (the_claim (λ (t : Vec ℕ Global). t.items) (SaysLeast c.args.lits.now.items c.args.term c.args.value)
    c.in_ok-found.found text c.in_ok-found.ensures is)) c.text_of.ensures
