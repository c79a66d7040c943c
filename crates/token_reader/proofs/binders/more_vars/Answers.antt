use Rattle.std.proofs.Common.{arith, map}
use Rattle.std.proofs.lemmas.Result.{err_from_is_err_and}
use Rattle.std.proofs.lemmas.List.{map_push}
use Rattle.grammar.specs.Terminals.{toks}
use Rattle.grammar.specs.View.{var_tail_view}
use Rattle.token_reader.proofs.Inside.{fails_in}
use Rattle.token_reader.proofs.Binds.{binder_in, binder_step, binder_closes}
use Rattle.token_reader.proofs.binders.more_vars.Goals as goal

pub loop-comma-init : goal.loop-comma-init
loop-comma-init c = rw c.start-count.ensures.same (record { shorter = omega arith; so_far = λ ts v h. h })

pub returns-in_err-further-clause-reads : goal.returns-in_err-further-clause-reads
returns-in_err-further-clause-reads c =
    let p = err_from_is_err_and c.from_residual.result c.from_residual.ensures.1 in
    rw (p.1, p.2) (λ ts v h. fails_in c.args.end c.in_err-further.field-0.0
    (binder_in v (map var_tail_view c.loop-comma.more) c.in-Some.comma ts (toks c.loop-comma.rest.now)
    (toks c.in-Some.after.now) (c.loop-comma.invariant.so_far ts v h) c.in-Some.ensures.some)
    c.in_err-further.ensures.reads)

pub loop-comma-preserved : goal.loop-comma-preserved
loop-comma-preserved c =
    let l = c.loop-comma.invariant in
    let inner = c.in_ok-further.ensures.reads in
    record {
      shorter = omega (arith, c.in_ok-further.ensures.shorter, c.in-Some.ensures.shorter, l.shorter);
      so_far = rw (c.in_ok-push.ensures.ok, map_push, c.tail.ensures)
          (λ ts v h. binder_step _ _ _ _ _ _ _ _ (l.so_far ts v h) c.in-Some.ensures.some inner.0 inner.1);
    }

pub returns-clause-reads : goal.returns-clause-reads
returns-clause-reads c = λ ts v h. binder_closes v (map var_tail_view c.loop-comma.more) ts
    (toks c.loop-comma.rest.now) c.args.end c.sign.result (c.loop-comma.invariant.so_far ts v h)
    c.in_default.ensures.none c.sign.ensures.reads
