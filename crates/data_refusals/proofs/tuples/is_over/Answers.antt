use Rattle.std.proofs.Common.{◌≡◌, ◌+◌, ◌∙◌, ◌&&◌, false, true, sym, ap, arith, rules}
use Rattle.data_refusals.proofs.Noting.{over, over_next, over_short, over_end}
use Rattle.data_refusals.proofs.tuples.is_over.Goals as goal

pub returns-then-i-elements : goal.returns-then-i-elements
returns-then-i-elements c = λ all es h. over_short all es c.args.args.now c.args.elements.now c.loop-i.i 0
    c.loop-i-test.true c.if-i-elements.true ∙ c.loop-i.invariant all es h

pub returns-then-not-has_element : goal.returns-then-not-has_element
returns-then-not-has_element c = λ all es h.
    let a = c.has_element.ensures all es h in
    let f : c.has_element.result ≡ false = search rules in
    sym (over_next all es c.args.args.now c.args.elements.now c.loop-i.i _ _ c.loop-i-test.true c.if-i-elements.false
    ∙ ap (λ b. b && over all es c.args.args.now c.args.elements.now c.loop-i.i (c.loop-i.i + 1)) (sym a ∙ f))
    ∙ c.loop-i.invariant all es h

pub loop-i-preserved : goal.loop-i-preserved
loop-i-preserved c = λ all es h.
    let a = c.has_element.ensures all es h in
    let f : c.has_element.result ≡ true = search rules in
    sym (over_next all es c.args.args.now c.args.elements.now c.loop-i.i _ _ c.loop-i-test.true c.if-i-elements.false
    ∙ ap (λ b. b && over all es c.args.args.now c.args.elements.now c.loop-i.i (c.loop-i.i + 1)) (sym a ∙ f))
    ∙ c.loop-i.invariant all es h

pub returns : goal.returns
returns c = λ all es h. over_end all es c.args.args.now c.args.elements.now c.loop-i.i (omega arith)
    ∙ c.loop-i.invariant all es h
