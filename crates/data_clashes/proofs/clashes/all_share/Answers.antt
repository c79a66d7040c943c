use Rattle.std.proofs.Common.{◌≡◌, ◌+◌, ◌∙◌, ◌&&◌, false, true, sym, ap, arith, rules}
use Rattle.data_clashes.proofs.Shares.{shared, share_next, share_short, share_end}
use Rattle.data_clashes.proofs.clashes.all_share.Goals as goal

pub returns-then-i-b : goal.returns-then-i-b
returns-then-i-b c = share_short c.args.a.now c.args.b.now c.loop-i.i c.loop-i-test.true c.if-i-b.true
    ∙ c.loop-i.invariant

pub returns-then-not-do_share : goal.returns-then-not-do_share
returns-then-not-do_share c =
    let f : c.do_share.result ≡ false = search rules in
    sym (share_next c.args.a.now c.args.b.now c.loop-i.i _ _ c.loop-i-test.true c.if-i-b.false
    ∙ ap (λ b. b && shared c.args.a.now c.args.b.now c.loop-i.i (c.loop-i.i + 1)) (sym c.do_share.ensures ∙ f))
    ∙ c.loop-i.invariant

pub loop-i-preserved : goal.loop-i-preserved
loop-i-preserved c =
    let f : c.do_share.result ≡ true = search rules in
    sym (share_next c.args.a.now c.args.b.now c.loop-i.i _ _ c.loop-i-test.true c.if-i-b.false
    ∙ ap (λ b. b && shared c.args.a.now c.args.b.now c.loop-i.i (c.loop-i.i + 1)) (sym c.do_share.ensures ∙ f))
    ∙ c.loop-i.invariant

pub returns : goal.returns
returns c = share_end c.args.a.now c.args.b.now c.loop-i.i (omega arith) ∙ c.loop-i.invariant
