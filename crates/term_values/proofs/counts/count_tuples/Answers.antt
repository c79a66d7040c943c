use Rattle.std.proofs.Common.{arith, length, ap, ◌∙◌}
use Rattle.std.proofs.lemmas.List.{drop_all}
use Rattle.term_values.proofs.CountLemmas.{count_more, count_all}
use Rattle.term_values.proofs.counts.count_tuples.Goals as goal

pub loop-ty-preserved : goal.loop-ty-preserved
loop-ty-preserved c =
    let size = ap length c.domain_in.ensures in
    let stop = c.saturating_mul-count.ensures in
    record {
      same =
          count_more c.args.domains.now c.args.types.now c.loop-ty.ty-index c.loop-ty.count
          c.saturating_mul-count.result
          (length c.domain_in.result.now) c.loop-ty-test.true size c.saturating_mul-count.ensures
          ∙ c.loop-ty.invariant.same;
      fits = omega arith;
    }

pub returns : goal.returns
returns c =
    let types = c.args.types.now in
    count_all c.args.domains.now types c.loop-ty.ty-index c.loop-ty.count (omega arith)
    (drop_all c.loop-ty.ty-index types (omega arith)) c.loop-ty.invariant.same c.loop-ty.invariant.fits
