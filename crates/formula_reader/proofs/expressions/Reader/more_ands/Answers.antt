use Rattle.std.proofs.Common.{arith, map}
use Rattle.std.proofs.lemmas.Result.{err_from_is_err_and}
use Rattle.std.proofs.lemmas.List.{map_push}
use Rattle.grammar.specs.Terminals.{toks}
use Rattle.grammar.specs.View.{and_tail_view, and_of}
use Rattle.token_reader.proofs.Inside.{fails_in}
use Rattle.formula_reader.proofs.InChains.{ands_more, ands_are, in_ands}
use Rattle.formula_reader.proofs.expressions.Reader.more_ands.Goals as goal

pub loop-place-init : goal.loop-place-init
loop-place-init g c = rw c.start-count.ensures.same (record { shorter = omega arith; so_far = λ ts u h. h })

pub returns-in_err-operand-clause-reads : goal.returns-in_err-operand-clause-reads
returns-in_err-operand-clause-reads g c =
    let p = err_from_is_err_and c.from_residual.result c.from_residual.ensures.1 in
    rw (p.1, p.2) (λ ts u h. fails_in c.args.self.now.end c.in_err-operand.field-0.0
    (in_ands ts (and_of u (map and_tail_view c.loop-place.more)) c.loop-place.closed (toks c.loop-place.rest.now)
    c.in-Some.place (toks c.in-Some.after.now)
    (c.loop-place.invariant.so_far ts u h) c.in-Some.ensures.closed c.in-Some.ensures.some)
    c.in_err-operand.ensures.reads)

pub loop-place-preserved : goal.loop-place-preserved
loop-place-preserved g c =
    let l = c.loop-place.invariant in
    record {
      shorter = omega (arith, c.in_ok-operand.ensures.shorter, c.in-Some.ensures.shorter, l.shorter);
      so_far = rw (c.in_ok-push.ensures.ok, map_push, c.and_tail.ensures)
          (λ ts u h. ands_more _ _ _ _ _ _ _ _ _ _ (l.so_far ts u h) c.in-Some.ensures.closed c.in-Some.ensures.some
          c.in_ok-operand.ensures.reads);
    }

pub returns-clause-reads : goal.returns-clause-reads
returns-clause-reads g c = λ ts u h. ands_are _ _ _ _ (c.loop-place.invariant.so_far ts u h) c.in_default.ensures.none
