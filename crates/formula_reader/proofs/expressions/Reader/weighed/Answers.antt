use Rattle.std.proofs.lemmas.Result.{err_from_is_err_and}
use Rattle.grammar.specs.Terminals.{toks}
use Rattle.grammar.specs.View.{term_view}
use Rattle.token_reader.proofs.Inside.{fails_in}
use Rattle.formula_reader.proofs.InFactors.{fold_no_colon, in_fold_term, unclosed_fold, to_the_brace}
use Rattle.formula_reader.proofs.expressions.Reader.weighed.Goals as goal

pub returns-in_err-second-clause-reads : goal.returns-in_err-second-clause-reads
returns-in_err-second-clause-reads g c =
    let p = err_from_is_err_and c.from_residual.result c.from_residual.ensures.1 in
    rw (p.1, p.2) (λ how place o f ts us is found. fold_no_colon how place o f ts us (toks c.args.items.now)
    c.args.self.now.end c.in_err-second.field-0.0 is found c.in_err-second.ensures.reads)

pub returns-in_err-of-clause-reads : goal.returns-in_err-of-clause-reads
returns-in_err-of-clause-reads g c =
    let p = err_from_is_err_and c.from_residual-in_err-of.result c.from_residual-in_err-of.ensures.1 in
    rw (p.1, p.2) (λ how place o f ts us is found. fails_in c.args.self.now.end c.in_err-of.field-0.0
    (in_fold_term how place o f c.in_ok-second.second ts us (toks c.args.items.now) (toks c.in_ok-second.rest.now) is
    found c.in_ok-second.ensures.reads) c.in_err-of.ensures.reads)

pub returns-in_err-brace-clause-reads : goal.returns-in_err-brace-clause-reads
returns-in_err-brace-clause-reads g c =
    let p = err_from_is_err_and c.from_residual-in_err-brace.result c.from_residual-in_err-brace.ensures.1 in
    rw (p.1, p.2) (λ how place o f ts us is found. unclosed_fold how place o f c.in_ok-second.second
    (term_view c.in_ok-of.of) ts us (toks c.args.items.now) (toks c.in_ok-second.rest.now)
    (toks c.in_ok-of.rest.now) c.args.self.now.end c.in_err-brace.field-0.0 is found c.in_ok-second.ensures.reads
    c.in_ok-of.ensures.reads c.in_err-brace.ensures.reads)

pub returns-clause-reads : goal.returns-clause-reads
returns-clause-reads g c = λ how place o f ts us is found.
    to_the_brace c.in_ok-second.second c.in_ok-brace.brace (term_view c.in_ok-of.of) (toks c.args.items.now) _ _ _
    c.in_ok-second.ensures.reads c.in_ok-of.ensures.reads c.in_ok-brace.ensures.reads
