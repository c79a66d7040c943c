use Rattle.std.proofs.Common.{◌∙◌, List, ap, arith, map}
use Rattle.std.proofs.lemmas.Result.{err_from_is_err_and}
use Rattle.std.proofs.lemmas.List.{map_push}
use Rattle.grammar.specs.Terminals.{Tok, toks}
use Rattle.grammar.specs.Spelling.{put_product}
use Rattle.grammar.specs.View.{product_tail_view, product_of}
use Rattle.token_reader.proofs.Inside.{fails_in}
use Rattle.formula_reader.proofs.InTerms.{in_product, product_step, product_push_fine}
use Rattle.formula_reader.proofs.expressions.Reader.more_factors.Goals as goal

pub loop-place-init : goal.loop-place-init
loop-place-init g c = rw c.start-count.ensures.same (record {
  shorter = omega arith;
  so_far = λ ts x h. h;
  fine =
      λ x h. h;
  ends = c.requires.ends;
})

pub returns-in_err-operand-clause-reads : goal.returns-in_err-operand-clause-reads
returns-in_err-operand-clause-reads g c =
    let p = err_from_is_err_and c.from_residual.result c.from_residual.ensures.1 in
    let l = c.loop-place.invariant in
    rw (p.1, p.2) (λ ts x h f. fails_in c.args.self.now.end c.in_err-operand.field-0.0
    (in_product (product_of x (map product_tail_view c.loop-place.more)) c.in-Some.place ts (toks c.in-Some.after.now)
    (l.so_far ts x h ∙ ap (λ (v : List Tok). put_product (product_of x (map product_tail_view c.loop-place.more)) v)
    c.in-Some.ensures.some) (l.fine x f))
    c.in_err-operand.ensures.reads)

pub loop-place-preserved : goal.loop-place-preserved
loop-place-preserved g c =
    let l = c.loop-place.invariant in
    let inner = c.in_ok-operand.ensures.reads in
    record {
      shorter = omega (arith, c.in_ok-operand.ensures.shorter, c.in-Some.ensures.shorter, l.shorter);
      so_far = rw (c.in_ok-push.ensures.ok, map_push, c.product_tail.ensures)
          (λ ts x h. product_step _ _ _ _ _ _ _ _ (l.so_far ts x h) c.in-Some.ensures.some inner.spelled);
      fine = rw (c.in_ok-push.ensures.ok, map_push, c.product_tail.ensures)
          (λ x f. product_push_fine _ _ _ _ (l.fine x f) inner.fine);
      ends = inner.ends;
    }

pub returns-clause-reads : goal.returns-clause-reads
returns-clause-reads g c =
    let l = c.loop-place.invariant in
    λ ts x h f. record {
      spelled = l.so_far ts x h;
      fine = l.fine x f;
      ends = l.ends;
      no_times =
          c.in_default.ensures.none;
    }
