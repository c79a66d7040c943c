use Rattle.std.proofs.Common.{◌≡◌, ℕ, List, ◌+◌, length, ◌++◌, take, drop, ◌∙◌, ap, arith}
use Rattle.std.proofs.lemmas.Result.{err_from_is_err_and}
use Rattle.std.proofs.lemmas.Grind.{common_steps}
use Rattle.kb_io.specs.Lines.{newlines}
use Rattle.kb_io.proofs.KnownBytes.{consumes_more}
use Rattle.kb_io.proofs.read_write.read_up_to.Goals as goal

pub returns-in_err-extend_from_slice : goal.returns-in_err-extend_from_slice
returns-in_err-extend_from_slice g c =
    let p = err_from_is_err_and c.from_residual-in_err-extend_from_slice.result
    c.from_residual-in_err-extend_from_slice.ensures.1 in
    rw (p.1, p.2) (
      c.loop-bytes.bytes.items ++ take c.in_ok-count.count c.read.new.buf,
      consumes_more _ _ _ _ _
          c.loop-bytes.invariant.taken c.in_ok-count.ensures.bytes.0,
      grind (arith, common_steps),
      c.in_ok-count.ensures.cause.ok ∙ c.loop-bytes.invariant.faults,
    )

pub returns-then-len-limit : goal.returns-then-len-limit
returns-then-len-limit g c =
    let all = c.loop-bytes.bytes.items ++ take c.in_ok-count.count
    (c.read.new.buf ++ drop c.min-room.result c.loop-bytes.buf) in
    let same : take c.in_ok-count.count (c.read.new.buf ++ drop c.min-room.result c.loop-bytes.buf)
    ≡ take c.in_ok-count.count c.read.new.buf = grind (arith, common_steps) in
    let size : length all ≡ c.args.limit + 1 = grind (arith, common_steps) in (
      all,
      rw same (consumes_more _ _ _ _ _ c.loop-bytes.invariant.taken c.in_ok-count.ensures.bytes.0),
      size,
      c.newlines_in-lines.ensures ∙ ap (λ (l : List ℕ). newlines (take c.args.limit l)) (c.deref.ensures.value
          ∙ c.in_ok-extend_from_slice.ensures.items),
      c.in_ok-count.ensures.cause.ok ∙ c.loop-bytes.invariant.faults,
    )
