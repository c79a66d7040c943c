use Rattle.std.proofs.lemmas.Result.{err_from_is_err_and}
use Rattle.grammar.specs.Terminals.{toks}
use Rattle.grammar.specs.BlockView.{head_view}
use Rattle.fo_reader.proofs.InTheory.{clause_head, clause_end}
use Rattle.fo_reader.proofs.theory.clause.Goals as goal

pub returns-in_err-found-clause-reads : goal.returns-in_err-found-clause-reads
returns-in_err-found-clause-reads c =
    let p = err_from_is_err_and c.from_residual.result c.from_residual.ensures.1 in
    rw (p.1, p.2) (clause_head (toks c.args.items.now) c.args.end c.in_err-found.field-0.0 c.in_err-found.ensures.reads)

pub returns-in_err-tail-clause-reads : goal.returns-in_err-tail-clause-reads
returns-in_err-tail-clause-reads c =
    let p = err_from_is_err_and c.from_residual-in_err-tail.result c.from_residual-in_err-tail.ensures.1 in
    rw (p.1, p.2) (clause_end (head_view c.in_ok-found.found) (toks c.args.items.now) (toks c.in_ok-found.rest.now)
    c.args.end c.in_err-tail.field-0.0 c.in_ok-found.ensures.reads.1 c.in_ok-found.ensures.reads.0
    c.in_ok-found.ensures.reads.2 c.in_err-tail.ensures.reads)
