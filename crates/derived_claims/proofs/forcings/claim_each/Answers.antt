use Rattle.derived_claims.proofs.Claiming.{claimed-next, forced-step}
use Rattle.derived_claims.proofs.forcings.claim_each.Goals as goal

pub put-requires : goal.put-requires
put-requires c =
    forced-step c.args.checker.now c.loop-forcing.checker c.args.lits.now c.in_ok-lits.lits c.args.found.now
    c.loop-forcing.forcing-index _ c.args.text.now.items c.loop-forcing.text.items c.loop-forcing-test.true
    c.requires.atoms c.requires.cites c.in_ok-lits.ensures c.loop-forcing.invariant

pub loop-forcing-preserved : goal.loop-forcing-preserved
loop-forcing-preserved c =
    claimed-next c.args.checker.now c.loop-forcing.checker c.args.lits.now c.in_ok-lits.lits c.args.found.now
    c.loop-forcing.forcing-index _ c.args.text.now.items c.loop-forcing.text.items c.loop-forcing-test.true
    c.requires.atoms c.requires.cites c.in_ok-lits.ensures c.loop-forcing.invariant c.put.new.checker
    c.put.new.text.items c.in_ok-put.ensures.adds c.in_ok-put.ensures.text
