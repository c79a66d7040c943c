use Rattle.std.proofs.lemmas.Result.{err_from_is_err_and}
use Rattle.grammar.specs.Terminals.{toks}
use Rattle.grammar.specs.View.{name_view}
use Rattle.block_reader.proofs.InVocabulary.{positions_first, positions_more, positions_close}
use Rattle.block_reader.proofs.vocabulary.positions.Goals as goal

pub returns-in_err-first-clause-reads : goal.returns-in_err-first-clause-reads
returns-in_err-first-clause-reads c =
    let p = err_from_is_err_and c.from_residual.result c.from_residual.ensures.1 in
    rw (p.1, p.2) (positions_first c.args.begin (toks c.args.items.now) c.args.end c.in_err-first.field-0.0
    c.in_default.ensures.none c.in_err-first.ensures.reads)

pub returns-in_err-more-clause-reads : goal.returns-in_err-more-clause-reads
returns-in_err-more-clause-reads c =
    let p = err_from_is_err_and c.from_residual-in_err-more.result c.from_residual-in_err-more.ensures.1 in
    rw (p.1, p.2) (positions_more c.args.begin (name_view c.in_ok-first.first) (toks c.args.items.now)
    (toks c.in_ok-first.rest.now) c.args.end c.in_err-more.field-0.0 c.in_default.ensures.none
    c.in_ok-first.ensures.reads c.in_err-more.ensures.reads)

pub returns-in_err-close-clause-reads : goal.returns-in_err-close-clause-reads
returns-in_err-close-clause-reads c =
    let p = err_from_is_err_and c.from_residual-in_err-close.result c.from_residual-in_err-close.ensures.1 in
    rw (p.1, p.2) (positions_close c.args.begin (name_view c.in_ok-first.first) _ (toks c.args.items.now)
    (toks c.in_ok-first.rest.now) (toks c.in_ok-more.rest.now) c.args.end c.in_err-close.field-0.0
    c.in_default.ensures.none c.in_ok-first.ensures.reads c.in_ok-more.ensures.reads.0 c.in_ok-more.ensures.reads.2
    c.in_err-close.ensures.reads)
