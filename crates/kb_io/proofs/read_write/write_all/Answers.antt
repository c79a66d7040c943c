use Rattle.std.proofs.Common.{◌++◌, take, ◌∙◌, arith}
use Rattle.kb_io.proofs.KnownBytes.{appends_more}
use Rattle.kb_io.proofs.Pieces.{written_more}
use Rattle.kb_io.proofs.read_write.write_all.Goals as goal

pub loop-rest-preserved : goal.loop-rest-preserved
loop-rest-preserved g c =
    let n = c.in_ok-count.count in
    let w = c.loop-rest.invariant.written in
    record {
      written = (
        w.0 ++ take n c.loop-rest.rest.now,
        written_more _ w.0 _ n _ w.1 (omega arith),
        appends_more _ _ _ _ _ w.2 c.in_ok-count.ensures.bytes,
      );
      faults = c.in_ok-count.ensures.cause.ok ∙ c.loop-rest.invariant.faults;
    }
