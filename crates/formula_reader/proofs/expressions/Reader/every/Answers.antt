use Rattle.std.proofs.Common.{refl}
use Rattle.std.proofs.lemmas.Result.{err_from_is_err_and}
use Rattle.grammar.specs.Terminals.{toks}
use Rattle.grammar.specs.View.{vars_view, formula_view}
use Rattle.token_reader.proofs.Inside.{fails_in}
use Rattle.formula_reader.proofs.InOperands.{in_every_vars, in_every_formula, every_is}
use Rattle.formula_reader.proofs.expressions.Reader.every.Goals as goal

pub returns-in_err-vars-clause-reads : goal.returns-in_err-vars-clause-reads
returns-in_err-vars-clause-reads g c =
    let p = err_from_is_err_and c.from_residual.result c.from_residual.ensures.1 in
    rw (p.1, p.2) (fails_in c.args.self.now.end c.in_err-vars.field-0.0
    (in_every_vars c.args.place (toks c.args.items.now)) c.in_err-vars.ensures.reads)

pub returns-in_err-inner-clause-reads : goal.returns-in_err-inner-clause-reads
returns-in_err-inner-clause-reads g c =
    let p = err_from_is_err_and c.from_residual-in_err-inner.result c.from_residual-in_err-inner.ensures.1 in
    rw (p.1, p.2) (fails_in c.args.self.now.end c.in_err-inner.field-0.0
    (in_every_formula c.args.place (vars_view c.in_ok-vars.vars) c.in_ok-vars.colon (toks c.args.items.now)
    (toks c.in_ok-vars.rest.now) c.in_ok-vars.ensures.reads) c.in_err-inner.ensures.reads)

pub returns-clause-reads : goal.returns-clause-reads
returns-clause-reads g c = rw c.in_ok-found.ensures (
  every_is c.args.place (vars_view c.in_ok-vars.vars)
      c.in_ok-vars.colon (formula_view c.in_ok-inner.inner) (toks c.args.items.now) (toks c.in_ok-vars.rest.now)
      (toks c.in_ok-inner.last.now) c.in_ok-vars.ensures.reads c.in_ok-inner.ensures.reads,
  refl,
)
