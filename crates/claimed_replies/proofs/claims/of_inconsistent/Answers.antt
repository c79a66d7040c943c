use Rattle.std.proofs.Common.{Global, Vec, ℕ}
use Rattle.std.proofs.lemmas.Result.{IfOk-weaker}
use Rattle.claimed_replies.specs.Claims.{SaysInconsistent}
use Rattle.claimed_replies.proofs.ClaimLemmas.{the_claim}
use Rattle.claimed_replies.proofs.claims.of_inconsistent.Goals as goal

pub returns : goal.returns
returns g c =
    IfOk-weaker c.text_of.result _ _
    (λ text is. the_claim (λ (t : Vec ℕ Global). t.items) (SaysInconsistent c.args.lits.now) c.in_ok-found.found text
    c.in_ok-found.ensures is) c.text_of.ensures
