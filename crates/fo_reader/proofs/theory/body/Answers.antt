use Rattle.std.proofs.lemmas.Result.{err_from_is_err_and}
use Rattle.grammar.specs.Terminals.{toks}
use Rattle.fo_reader.proofs.InTheory.{no_body, in_body}
use Rattle.fo_reader.proofs.theory.body.Goals as goal

pub returns-in_err-_dot-clause-reads : goal.returns-in_err-_dot-clause-reads
returns-in_err-_dot-clause-reads c =
    let p = err_from_is_err_and c.from_residual.result c.from_residual.ensures.1 in
    rw (p.1, p.2) (no_body (toks c.args.items.now) c.args.end c.in_err-_dot.field-0.0 c.in_default.ensures.none
    c.in_err-_dot.ensures.reads)

pub returns-in_err-found-clause-reads : goal.returns-in_err-found-clause-reads
returns-in_err-found-clause-reads c =
    let p = err_from_is_err_and c.from_residual-in_err-found.result c.from_residual-in_err-found.ensures.1 in
    rw (p.1, p.2) (in_body c.in-Some.place (toks c.args.items.now) (toks c.in-Some.behind.now) c.args.end
    c.in_err-found.field-0.0 c.in-Some.ensures.some c.in_default-skip.ensures.none c.in_err-found.ensures.reads)
