use Rattle.std.proofs.Common.{◌∙◌, not, arith, sym, ap, rules, false}
use Rattle.std.proofs.lemmas.List.{take_all}
use Rattle.kept_supports.specs.Supports.{is_decided, undecided}
use Rattle.kept_supports.proofs.KeptFacts.{pushed, skipped}
use Rattle.kept_supports.proofs.supports.undecided_by.Goals as goal

pub loop-lit-preserved-then-decides : goal.loop-lit-preserved-then-decides
loop-lit-preserved-then-decides c = λ ks h.
    c.loop-lit.invariant ks h
    ∙ sym (skipped (λ l. not (is_decided ks l)) c.args.lits.now c.loop-lit.lit-index _ c.loop-lit-test.true
    (ap not (sym (c.if-decides.ensures ks h))))

pub loop-lit-preserved : goal.loop-lit-preserved
loop-lit-preserved c = λ ks h.
    pushed (λ l. not (is_decided ks l)) c.args.lits.now c.loop-lit.lit-index (record {
      var = record { 0 = 0 };
      positive = false;
    })
    c.loop-lit-test.true c.loop-lit.some.items c.push.new.self.items (ap not (sym (c.if-decides.ensures ks h)))
    (c.loop-lit.invariant ks h) (search rules)

pub returns : goal.returns
returns c = λ ks h.
    c.loop-lit.invariant ks h
    ∙ ap (undecided ks) (take_all c.loop-lit.lit-index c.args.lits.now (omega (arith, c.loop-lit-test.false)))
