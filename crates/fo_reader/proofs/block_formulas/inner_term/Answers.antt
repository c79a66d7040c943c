use Rattle.std.proofs.lemmas.Result.{err_from_is_err_and}
use Rattle.grammar.specs.Terminals.{toks}
use Rattle.fo_reader.proofs.Beyond.{term_fails}
use Rattle.fo_reader.proofs.block_formulas.inner_term.Goals as goal

pub returns-in_err-found-clause-reads : goal.returns-in_err-found-clause-reads
returns-in_err-found-clause-reads c =
    let p = err_from_is_err_and c.from_residual.result c.from_residual.ensures.1 in
    rw (p.1, p.2) (term_fails (toks c.args.items.now) c.args.end c.in_err-found.field-0.0 c.in_err-found.ensures.reads)
