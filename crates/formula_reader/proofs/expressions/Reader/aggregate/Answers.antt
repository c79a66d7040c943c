use Rattle.std.proofs.lemmas.Result.{err_from_is_err_and}
use Rattle.grammar.specs.Terminals.{toks}
use Rattle.grammar.specs.View.{formula_view, term_view, vars_view}
use Rattle.formula_reader.specs.Results.{opening_view}
use Rattle.token_reader.proofs.Inside.{fails_in}
use Rattle.formula_reader.proofs.InFactors.{in_fold_opening, in_fold_formula, fold_is}
use Rattle.formula_reader.proofs.expressions.Reader.aggregate.Goals as goal

pub returns-in_err-head-clause-reads : goal.returns-in_err-head-clause-reads
returns-in_err-head-clause-reads g c =
    let p = err_from_is_err_and c.from_residual.result c.from_residual.ensures.1 in
    rw (p.1, p.2) (fails_in c.args.self.now.end c.in_err-head.field-0.0 (in_fold_opening c.args.how c.args.place
    (toks c.args.items.now)) c.in_err-head.ensures.reads)

pub returns-in_err-inner-clause-reads : goal.returns-in_err-inner-clause-reads
returns-in_err-inner-clause-reads g c =
    let p = err_from_is_err_and c.from_residual-in_err-inner.result c.from_residual-in_err-inner.ensures.1 in
    rw (p.1, p.2) (fails_in c.args.self.now.end c.in_err-inner.field-0.0 (in_fold_formula c.args.how c.args.place
    (opening_view c.in_ok-head.head) (toks c.args.items.now) _ c.in_ok-head.ensures.reads.0)
    c.in_err-inner.ensures.reads)

pub returns-in_err-second-clause-reads : goal.returns-in_err-second-clause-reads
returns-in_err-second-clause-reads g c =
    let p = err_from_is_err_and c.from_residual-in_err-second.result c.from_residual-in_err-second.ensures.1 in
    rw (p.1, p.2) (c.in_err-second.ensures.reads c.args.how c.args.place (opening_view c.in_ok-head.head)
    (formula_view c.in_ok-inner.inner) (toks c.args.items.now) _ c.in_ok-head.ensures.reads.0
    c.in_ok-inner.ensures.reads)

pub returns-clause-reads : goal.returns-clause-reads
returns-clause-reads g c =
    let head = c.in_ok-head.ensures.reads in
    let read = c.in_ok-second.ensures.reads c.args.how c.args.place (opening_view c.in_ok-head.head)
    (formula_view c.in_ok-inner.inner) (toks c.args.items.now) _ head.0 c.in_ok-inner.ensures.reads in
    rw (c.in_ok-found.ensures, head.1) (fold_is c.args.how c.args.place c.in_ok-head.head.brace
    (vars_view c.in_ok-head.head.vars) c.in_ok-head.head.colon (formula_view c.in_ok-inner.inner)
    c.in_ok-second.second (term_view c.in_ok-second.of) c.in_ok-second.brace (toks c.args.items.now) _ _ _ head.0
    c.in_ok-inner.ensures.reads read.0 read.1)
