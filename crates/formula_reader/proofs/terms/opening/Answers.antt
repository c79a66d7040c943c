use Rattle.std.proofs.lemmas.Result.{err_from_is_err_and}
use Rattle.grammar.specs.Terminals.{toks}
use Rattle.token_reader.proofs.Inside.{fails_in}
use Rattle.formula_reader.proofs.InTerms.{no_brace, in_opening}
use Rattle.formula_reader.proofs.terms.opening.Goals as goal

pub returns-in_err-brace-clause-reads : goal.returns-in_err-brace-clause-reads
returns-in_err-brace-clause-reads c =
    let p = err_from_is_err_and c.from_residual.result c.from_residual.ensures.1 in
    rw (p.1, p.2) (no_brace (toks c.args.items.now) c.args.end c.in_err-brace.field-0.0 c.in_err-brace.ensures.reads)

pub returns-in_err-vars-clause-reads : goal.returns-in_err-vars-clause-reads
returns-in_err-vars-clause-reads c =
    let p = err_from_is_err_and c.from_residual-in_err-vars.result c.from_residual-in_err-vars.ensures.1 in
    rw (p.1, p.2) (fails_in c.args.end c.in_err-vars.field-0.0 (in_opening (toks c.args.items.now) _ c.in_ok-brace.brace
    c.in_ok-brace.ensures.reads) c.in_err-vars.ensures.reads)
