use Rattle.std.proofs.lemmas.Result.{err_from_is_err_and}
use Rattle.grammar.specs.Terminals.{toks}
use Rattle.grammar.specs.View.{name_view}
use Rattle.block_reader.proofs.InStructure.{no_mark_name, no_mark_close, no_mark_equal}
use Rattle.block_reader.proofs.structure.mark.Goals as goal

pub returns-in_err-found-clause-reads : goal.returns-in_err-found-clause-reads
returns-in_err-found-clause-reads c =
    let p = err_from_is_err_and c.from_residual.result c.from_residual.ensures.1 in
    rw (p.1, p.2) (no_mark_name c.args.begin (toks c.args.items.now) c.args.end c.in_err-found.field-0.0
    c.in_err-found.ensures.reads)

pub returns-in_err-close-clause-reads : goal.returns-in_err-close-clause-reads
returns-in_err-close-clause-reads c =
    let p = err_from_is_err_and c.from_residual-in_err-close.result c.from_residual-in_err-close.ensures.1 in
    rw (p.1, p.2) (no_mark_close c.args.begin (name_view c.in_ok-found.found) (toks c.args.items.now)
    (toks c.in_ok-found.rest.now) c.args.end c.in_err-close.field-0.0 c.in_ok-found.ensures.reads
    c.in_default.ensures.none c.in_err-close.ensures.reads)

pub returns-in_err-place-clause-reads : goal.returns-in_err-place-clause-reads
returns-in_err-place-clause-reads c =
    let p = err_from_is_err_and c.from_residual-in_err-place.result c.from_residual-in_err-place.ensures.1 in
    rw (p.1, p.2) (no_mark_equal c.args.begin (name_view c.in_ok-found.found) c.in_ok-close.close
    (toks c.args.items.now) (toks c.in_ok-found.rest.now) (toks c.in_ok-close.rest.now) c.args.end
    c.in_err-place.field-0.0 c.in_ok-found.ensures.reads c.in_default.ensures.none c.in_ok-close.ensures.reads
    c.in_err-place.ensures.reads)
