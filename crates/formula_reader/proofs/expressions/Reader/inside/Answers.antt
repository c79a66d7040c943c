use Rattle.std.proofs.lemmas.Result.{err_from_is_err_and}
use Rattle.grammar.specs.Terminals.{toks}
use Rattle.token_reader.proofs.Inside.{fails_in}
use Rattle.formula_reader.proofs.InOperands.{in_content, unclosed_content, unsealed_content}
use Rattle.formula_reader.proofs.expressions.Reader.inside.Goals as goal

pub returns-in_err-inner-clause-reads : goal.returns-in_err-inner-clause-reads
returns-in_err-inner-clause-reads g c =
    let p = err_from_is_err_and c.from_residual.result c.from_residual.ensures.1 in
    rw (p.1, p.2) (λ begin. fails_in c.args.self.now.end c.in_err-inner.field-0.0
    (in_content begin (toks c.args.items.now)) c.in_err-inner.ensures.reads)

pub returns-in_err-place-clause-reads : goal.returns-in_err-place-clause-reads
returns-in_err-place-clause-reads g c =
    let p = err_from_is_err_and c.from_residual-in_err-place.result c.from_residual-in_err-place.ensures.1 in
    rw (p.1, p.2) (λ begin. unclosed_content begin c.in_ok-inner.inner (toks c.args.items.now)
    (toks c.in_ok-inner.rest.now) c.args.self.now.end c.in_err-place.field-0.0
    c.in_ok-inner.ensures.reads c.in_err-place.ensures.reads)

pub returns-in_err-sealed-clause-reads : goal.returns-in_err-sealed-clause-reads
returns-in_err-sealed-clause-reads g c =
    let p = err_from_is_err_and c.from_residual-in_err-sealed.result c.from_residual-in_err-sealed.ensures.1 in
    rw (p.1, p.2) (λ begin. unsealed_content begin c.in_ok-place.place c.in_ok-inner.inner (toks c.args.items.now)
    (toks c.in_ok-inner.rest.now) (toks c.in_ok-place.last.now) c.args.self.now.end
    c.in_err-sealed.field-0.0 c.in_ok-inner.ensures.reads c.in_ok-place.ensures.reads c.in_err-sealed.ensures.err)

pub returns-clause-reads : goal.returns-clause-reads
returns-clause-reads g c = (
  toks c.in_ok-inner.rest.now,
  c.in_ok-inner.ensures.reads,
  c.in_ok-place.ensures.reads,
  c.in_ok-sealed.ensures.ok,
)
