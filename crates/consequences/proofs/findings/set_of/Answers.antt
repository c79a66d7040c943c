use Rattle.std.proofs.Common.{◌+◌, take, get_or, subst, arith}
use Rattle.std.proofs.lemmas.List.{take_all, take_more}
use Rattle.consequences.specs.Indexed.{IsSetOf}
use Rattle.consequences.proofs.IndexFacts.{one-more, zero_lit}
use Rattle.consequences.proofs.findings.set_of.Goals as goal

pub loop-lit-preserved : goal.loop-lit-preserved
loop-lit-preserved c =
    let i = c.loop-lit.lit-index in
    one-more c.loop-lit.set.keys c.insert_full.new.self.keys (take i c.args.lits.now) (take (i + 1) c.args.lits.now)
    (get_or c.args.lits.now i zero_lit) c.loop-lit.invariant c.in_ok-insert_full.ensures.keys
    (take_more c.args.lits.now i zero_lit c.loop-lit-test.true)

pub returns : goal.returns
returns c =
    subst (IsSetOf c.loop-lit.set.keys)
    (take_all c.loop-lit.lit-index c.args.lits.now (omega (arith, c.loop-lit-test.false))) c.loop-lit.invariant
