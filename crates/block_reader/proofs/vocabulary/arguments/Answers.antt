use Rattle.std.proofs.lemmas.Result.{err_from_is_err_and}
use Rattle.grammar.specs.Terminals.{toks}
use Rattle.grammar.specs.BlockView.{positions_view}
use Rattle.block_reader.proofs.InVocabulary.{arguments_none, arguments_in, arguments_behind}
use Rattle.block_reader.proofs.vocabulary.arguments.Goals as goal

pub returns-in_err-arguments_end-clause-reads : goal.returns-in_err-arguments_end-clause-reads
returns-in_err-arguments_end-clause-reads c =
    let p = err_from_is_err_and c.from_residual.result c.from_residual.ensures.1 in
    rw (p.1, p.2) (arguments_none (toks c.args.items.now) c.args.end c.in_err-arguments_end.field-0.0
    c.in_default.ensures.none c.in_err-arguments_end.ensures)

pub returns-in_err-found-clause-reads : goal.returns-in_err-found-clause-reads
returns-in_err-found-clause-reads c =
    let p = err_from_is_err_and c.from_residual-in_err-found.result c.from_residual-in_err-found.ensures.1 in
    rw (p.1, p.2) (arguments_in c.in-Some.begin (toks c.args.items.now) (toks c.in-Some.behind.now) c.args.end
    c.in_err-found.field-0.0 c.in-Some.ensures.some c.in_err-found.ensures.reads)

pub returns-in_err-arguments_end-2-clause-reads : goal.returns-in_err-arguments_end-2-clause-reads
returns-in_err-arguments_end-2-clause-reads c =
    let p = err_from_is_err_and c.from_residual-in_err-arguments_end-2.result
    c.from_residual-in_err-arguments_end-2.ensures.1 in
    rw (p.1, p.2) (arguments_behind (positions_view c.in_ok-found.found) c.in-Some.begin (toks c.args.items.now)
    (toks c.in-Some.behind.now) (toks c.in_ok-found.rest.now) c.args.end c.in_err-arguments_end-2.field-0.0
    c.in-Some.ensures.some c.in_ok-found.ensures.reads.0 c.in_err-arguments_end-2.ensures)
