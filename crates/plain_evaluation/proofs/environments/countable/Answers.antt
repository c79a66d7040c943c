use Rattle.std.proofs.Common.{◌≡◌, ◌*◌, length, ap, sym, ◌∙◌, arith, rules}
use Rattle.kb_logic.proofs.Assignments.{count_more}
use Rattle.plain_evaluation.proofs.environments.countable.Goals as goal

pub loop-len-preserved : goal.loop-len-preserved
loop-len-preserved c =
    let size = length c.domain_in-size.result.now in
    let product : c.in-Some.product ≡ c.loop-len.count * size = search rules in (
      product ∙ ap (λ n. n * size) c.loop-len.invariant.0
          ∙ rw (c.domain_in-size.ensures, ← c.index-bounds-len.is)
          (sym (count_more c.args.domains.now c.args.bounds.now c.loop-len.len c.index-bounds-len.result
          c.loop-len-test.true c.index-bounds-len.is)),
      λ e. absurd (omega (arith, e)),
    )
