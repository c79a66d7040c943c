use Rattle.std.proofs.Common.{map, take}
use Rattle.derived_claims.specs.Following.{forced_claim}
use Rattle.derived_claims.specs.Statements.{Claimed}
use Rattle.derived_claims.proofs.forcings.claim_each.Given as goal

abbrev pub invariant-loop-forcing : goal.invariant-loop-forcing
invariant-loop-forcing l = Claimed l.initial.checker l.checker
    (map (forced_claim l.lits) (take l.forcing-index l.found)) l.initial.text.items l.text.items
