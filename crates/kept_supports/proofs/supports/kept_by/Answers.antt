use Rattle.std.proofs.Common.{◌∙◌, arith, sym, ap, rules, false}
use Rattle.std.proofs.lemmas.List.{take_all}
use Rattle.kept_supports.specs.Supports.{is_kept, kept_of}
use Rattle.kept_supports.proofs.KeptFacts.{pushed, skipped}
use Rattle.kept_supports.proofs.supports.kept_by.Goals as goal

pub loop-lit-preserved-then-not-is_among : goal.loop-lit-preserved-then-not-is_among
loop-lit-preserved-then-not-is_among c = λ ks h.
    c.loop-lit.invariant ks h
    ∙ sym (skipped (is_kept ks) c.args.lits.now c.loop-lit.lit-index _ c.loop-lit-test.true
    (sym (c.if-not-is_among.ensures ks h)))

pub loop-lit-preserved : goal.loop-lit-preserved
loop-lit-preserved c = λ ks h.
    pushed (is_kept ks) c.args.lits.now c.loop-lit.lit-index (record { var = record { 0 = 0 }; positive = false })
    c.loop-lit-test.true c.loop-lit.some c.push.new.self (sym (c.if-not-is_among.ensures ks h)) (c.loop-lit.invariant
    ks h) (search rules)

pub returns : goal.returns
returns c = λ ks h.
    c.loop-lit.invariant ks h
    ∙ ap (kept_of ks) (take_all c.loop-lit.lit-index c.args.lits.now (omega (arith, c.loop-lit-test.false)))
