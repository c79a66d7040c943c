use Rattle.std.proofs.lemmas.Result.{err_from_is_err_and}
use Rattle.grammar.specs.Terminals.{toks}
use Rattle.formula_reader.proofs.expressions.Reader.factor.Goals as goal

pub returns-in_err-found-clause-reads : goal.returns-in_err-found-clause-reads
returns-in_err-found-clause-reads g c =
    let p = err_from_is_err_and c.from_residual-in_err-found.result c.from_residual-in_err-found.ensures.1 in
    let spelled = c.in_ok-rest.ensures.reads in
    rw (p.1, p.2) (c.in_err-found.ensures.reads c.minuses.new.signs (toks c.args.items.now)
    (rw c.new-signs.ensures at spelled))

pub returns-clause-reads : goal.returns-clause-reads
returns-clause-reads g c =
    let spelled = c.in_ok-rest.ensures.reads in
    rw c.in_ok-signed.ensures (c.in_ok-found.ensures.reads c.minuses.new.signs (toks c.args.items.now)
    (rw c.new-signs.ensures at spelled))
