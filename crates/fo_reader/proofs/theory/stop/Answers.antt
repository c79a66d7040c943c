use Rattle.std.proofs.lemmas.Result.{err_from_is_err_and}
use Rattle.grammar.specs.Terminals.{toks}
use Rattle.fo_reader.proofs.InTheory.{no_stop, behind_stop}
use Rattle.fo_reader.proofs.theory.stop.Goals as goal

pub returns-in_err-_close-clause-reads : goal.returns-in_err-_close-clause-reads
returns-in_err-_close-clause-reads c =
    let p = err_from_is_err_and c.from_residual.result c.from_residual.ensures.1 in
    rw (p.1, p.2) (no_stop (toks c.args.items.now) c.args.end c.in_err-_close.field-0.0 c.in_default.ensures.none
    c.in_err-_close.ensures.reads)

pub returns-in_err-_close-2-clause-reads : goal.returns-in_err-_close-2-clause-reads
returns-in_err-_close-2-clause-reads c =
    let p = err_from_is_err_and c.from_residual-in_err-_close-2.result c.from_residual-in_err-_close-2.ensures.1 in
    rw (p.1, p.2) (behind_stop c.in-Some.dot (toks c.args.items.now) (toks c.in-Some.behind.now) c.args.end
    c.in_err-_close-2.field-0.0 c.in-Some.ensures.some c.in_err-_close-2.ensures.reads)
