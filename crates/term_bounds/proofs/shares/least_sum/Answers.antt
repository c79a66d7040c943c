use Rattle.std.proofs.Common.{rules, ◌≡◌, ◌+◌, ◌+ℤ◌, drop, get_or, FitsSigned, to_z, of_z, refl, ap, ◌∙◌}
use Rattle.std.proofs.Common.{arith}
use Rattle.std.specs.Int.{w128}
use Rattle.std.proofs.lemmas.Int.{ints, to_z-of_z}
use Rattle.kb_logic.specs.declared.elements.ExtInt.{ExtInt}
use Rattle.kb_logic.specs.declared.syntax.AggKind.TheVariants as kind
use Rattle.lit_core.specs.Literals.{value_in}
use Rattle.ground_core.specs.declared.parts.Part.{Part}
use Rattle.term_bounds.specs.Shares.{least_total, share}
use Rattle.term_bounds.proofs.ListFacts.{no_part, sum-next}
use Rattle.term_bounds.proofs.shares.least_sum.Goals as goal

pub loop-part-preserved : goal.loop-part-preserved
loop-part-preserved c =
    let ps = c.args.parts.now in
    let i = c.loop-part.part-index in
    let p : Part = get_or ps i no_part in
    let was = to_z w128 c.loop-part.sum-bits in
    let sum = c.plus_part-sum.result in
    let fits : FitsSigned w128 sum = search rules in
    let back : to_z w128 (of_z w128 sum) ≡ sum = to_z-of_z w128 sum fits in
    let more : sum ≡ was +ℤ share (value_in c.args.assignment.now p.lit) p.weight = c.plus_part-sum.ensures.sum
    ∙ ap (λ o. was +ℤ share o p.weight) c.value.ensures in
    let all : (b : ExtInt) → sum +ℤ least_total c.args.assignment.now kind.Sum b (drop (i + 1) ps)
    ≡ least_total c.args.assignment.now kind.Sum b ps = λ b. sum-next (least_total c.args.assignment.now kind.Sum b)
    (λ (q : Part). share (value_in c.args.assignment.now q.lit) q.weight) (λ x xs. refl) ps i no_part was sum
    c.loop-part-test.true (c.loop-part.invariant.0 b) more in
    let low = c.plus_part-sum.ensures.low in
    let high = c.plus_part-sum.ensures.high in
    rw back (all, omega (arith, ints, c.loop-part.invariant.1, low), omega (arith, ints, c.loop-part.invariant.2, high))
