use Rattle.std.proofs.lemmas.Result.{err_from_is_err_and}
use Rattle.grammar.specs.Terminals.{toks}
use Rattle.formula_reader.specs.Results.{opening_view}
use Rattle.token_reader.proofs.Inside.{fails_in}
use Rattle.formula_reader.proofs.InFactors.{in_count_opening, in_count_formula, unclosed_count}
use Rattle.formula_reader.proofs.expressions.Reader.count.Goals as goal

pub returns-in_err-head-clause-reads : goal.returns-in_err-head-clause-reads
returns-in_err-head-clause-reads g c =
    let p = err_from_is_err_and c.from_residual.result c.from_residual.ensures.1 in
    rw (p.1, p.2) (fails_in c.args.self.now.end c.in_err-head.field-0.0
    (in_count_opening c.args.place (toks c.args.items.now)) c.in_err-head.ensures.reads)

pub returns-in_err-inner-clause-reads : goal.returns-in_err-inner-clause-reads
returns-in_err-inner-clause-reads g c =
    let p = err_from_is_err_and c.from_residual-in_err-inner.result c.from_residual-in_err-inner.ensures.1 in
    rw (p.1, p.2) (fails_in c.args.self.now.end c.in_err-inner.field-0.0
    (in_count_formula c.args.place (opening_view c.in_ok-head.head) (toks c.args.items.now) _
    c.in_ok-head.ensures.reads.0) c.in_err-inner.ensures.reads)

pub returns-in_err-brace-clause-reads : goal.returns-in_err-brace-clause-reads
returns-in_err-brace-clause-reads g c =
    let p = err_from_is_err_and c.from_residual-in_err-brace.result c.from_residual-in_err-brace.ensures.1 in
    rw (p.1, p.2) (unclosed_count c.args.place (opening_view c.in_ok-head.head) _ (toks c.args.items.now) _ _
    c.args.self.now.end c.in_err-brace.field-0.0 c.in_ok-head.ensures.reads.0 c.in_ok-inner.ensures.reads
    c.in_err-brace.ensures.reads)
