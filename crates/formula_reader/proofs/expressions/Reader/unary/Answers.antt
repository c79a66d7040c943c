use Rattle.std.proofs.lemmas.Result.{err_from_is_err_and}
use Rattle.grammar.specs.Terminals.{toks}
use Rattle.token_reader.proofs.Inside.{fails_in}
use Rattle.formula_reader.proofs.InOperands.{to_unary}
use Rattle.formula_reader.proofs.expressions.Reader.unary.Goals as goal

pub returns-in_err-found-clause-reads : goal.returns-in_err-found-clause-reads
returns-in_err-found-clause-reads g c =
    let p = err_from_is_err_and c.from_residual.result c.from_residual.ensures.1 in
    rw (p.1, p.2) (fails_in c.args.self.now.end c.in_err-found.field-0.0 (to_unary (toks c.args.items.now))
    c.in_err-found.ensures.reads)

pub returns-in_err-inner-clause-reads : goal.returns-in_err-inner-clause-reads
returns-in_err-inner-clause-reads g c =
    let p = err_from_is_err_and c.from_residual-in_err-inner.result c.from_residual-in_err-inner.ensures.1 in
    rw (p.1, p.2) (c.in_err-inner.ensures.reads (toks c.args.items.now) c.in_ok-found.ensures.reads)

pub returns-clause-reads : goal.returns-clause-reads
returns-clause-reads g c = c.in_ok-inner.ensures.reads (toks c.args.items.now) c.in_ok-found.ensures.reads
