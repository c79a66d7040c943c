use Rattle.std.proofs.Common.{ap}
use Rattle.std.proofs.lemmas.Result.{err_from_is_err_and}
use Rattle.grammar.specs.Terminals.{toks}
use Rattle.grammar.specs.View.{formula_view}
use Rattle.token_reader.specs.Signs.{next}
use Rattle.fo_reader.proofs.Beyond.{formula_fails}
use Rattle.fo_reader.proofs.InTheory.{no_statement}
use Rattle.fo_reader.proofs.block_formulas.statement.Goals as goal

pub returns-in_err-found-clause-reads : goal.returns-in_err-found-clause-reads
returns-in_err-found-clause-reads c =
    let p = err_from_is_err_and c.from_residual.result c.from_residual.ensures.1 in
    rw (p.1, p.2) (formula_fails (toks c.args.items.now) c.args.end c.in_err-found.field-0.0
    c.in_err-found.ensures.reads)

pub returns-in_err-_dot-clause-reads : goal.returns-in_err-_dot-clause-reads
returns-in_err-_dot-clause-reads c =
    let p = err_from_is_err_and c.from_residual-in_err-_dot.result c.from_residual-in_err-_dot.ensures.1 in
    rw (p.1, p.2) (no_statement (formula_view c.in_ok-found.found) (toks c.args.items.now) (toks c.in_ok-found.rest.now)
    c.args.end c.in_err-_dot.field-0.0 c.in_ok-found.ensures.reads c.in_err-_dot.ensures.reads)

pub returns-clause-reads : goal.returns-clause-reads
returns-clause-reads c =
    let read = c.in_ok-found.ensures.reads in
    rw c.into_inner.ensures (read.spelled, read.fine, ap next c.in_ok-_dot.ensures.reads)
