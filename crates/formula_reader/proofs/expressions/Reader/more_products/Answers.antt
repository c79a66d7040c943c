use Rattle.std.proofs.Common.{◌∙◌, List, ap, arith, map}
use Rattle.std.proofs.lemmas.Result.{err_from_is_err_and}
use Rattle.std.proofs.lemmas.List.{map_push}
use Rattle.grammar.specs.Terminals.{Tok, toks}
use Rattle.grammar.specs.Spelling.{put_term}
use Rattle.grammar.specs.View.{factor_view, sum_tail_view, term_of}
use Rattle.token_reader.proofs.Inside.{fails_in}
use Rattle.formula_reader.proofs.InTerms.{in_sum, in_summand, term_step, term_push_fine, sum_ends}
use Rattle.formula_reader.proofs.expressions.Reader.more_products.Goals as goal

pub loop-sign-init : goal.loop-sign-init
loop-sign-init g c = rw c.start-count.ensures.same
    (record {
      shorter = omega arith;
      so_far = λ ts x h. h;
      fine = λ x h. h;
      ends = c.requires.ends;
      no_times =
          c.requires.no_times;
    })

pub returns-in_err-factor-clause-reads : goal.returns-in_err-factor-clause-reads
returns-in_err-factor-clause-reads g c =
    let p = err_from_is_err_and c.from_residual.result c.from_residual.ensures.1 in
    let l = c.loop-sign.invariant in
    rw (p.1, p.2) (λ ts x h f. fails_in c.args.self.now.end c.in_err-factor.field-0.0
    (in_sum (term_of x (map sum_tail_view c.loop-sign.more)) c.in-Some.sign c.in-Some.place ts
    (toks c.in-Some.after.now)
    (l.so_far ts x h ∙ ap (λ (v : List Tok). put_term (term_of x (map sum_tail_view c.loop-sign.more)) v)
    c.in-Some.ensures.some) (l.fine x f))
    c.in_err-factor.ensures.reads)

pub returns-in_err-operand-clause-reads : goal.returns-in_err-operand-clause-reads
returns-in_err-operand-clause-reads g c =
    let p = err_from_is_err_and c.from_residual-in_err-operand.result c.from_residual-in_err-operand.ensures.1 in
    let l = c.loop-sign.invariant in
    rw (p.1, p.2) (λ ts x h f. fails_in c.args.self.now.end c.in_err-operand.field-0.0
    (in_summand (term_of x (map sum_tail_view c.loop-sign.more)) c.in-Some.sign c.in-Some.place
    (factor_view c.in_ok-factor.factor) ts
    (toks c.in-Some.after.now) (toks c.in_ok-factor.after.now)
    (l.so_far ts x h ∙ ap (λ (v : List Tok). put_term (term_of x (map sum_tail_view c.loop-sign.more)) v)
    c.in-Some.ensures.some)
    c.in_ok-factor.ensures.reads.spelled (l.fine x f)) c.in_err-operand.ensures.reads)

pub loop-sign-preserved : goal.loop-sign-preserved
loop-sign-preserved g c =
    let l = c.loop-sign.invariant in
    let inner = c.in_ok-operand.ensures.reads in
    record {
      shorter = omega (
        arith,
        c.in_ok-operand.ensures.shorter,
        c.in_ok-factor.ensures.shorter,
        c.in-Some.ensures.shorter,
        l.shorter,
      );
      so_far = rw (c.in_ok-push.ensures.ok, map_push, c.sum_tail.ensures)
          (λ ts x h. term_step _ _ _ _ _ _ _ _ _ _ _ (l.so_far ts x h) c.in-Some.ensures.some
          c.in_ok-factor.ensures.reads.spelled inner.spelled);
      fine = rw (c.in_ok-push.ensures.ok, map_push, c.sum_tail.ensures)
          (λ x f. term_push_fine _ _ _ _ _ (l.fine x f) inner.fine);
      ends = inner.ends;
      no_times = inner.no_times;
    }

pub returns-clause-reads : goal.returns-clause-reads
returns-clause-reads g c =
    let l = c.loop-sign.invariant in
    λ ts x h f. record {
      spelled = l.so_far ts x h;
      fine = l.fine x f;
      ends =
          sum_ends (toks c.loop-sign.rest.now) l.ends l.no_times c.in_default.ensures.none;
    }
