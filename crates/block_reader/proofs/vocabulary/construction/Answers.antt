use Rattle.std.proofs.lemmas.Result.{err_from_is_err_and}
use Rattle.grammar.specs.Terminals.{toks}
use Rattle.grammar.specs.View.{name_view}
use Rattle.block_reader.proofs.InVocabulary.{no_from, no_brace, no_first_name, in_more_names, no_close}
use Rattle.block_reader.proofs.InVocabulary.{behind_construction}
use Rattle.block_reader.proofs.vocabulary.construction.Goals as goal

pub returns-in_err-from-clause-reads : goal.returns-in_err-from-clause-reads
returns-in_err-from-clause-reads c =
    let p = err_from_is_err_and c.from_residual.result c.from_residual.ensures.1 in
    rw (p.1, p.2) (no_from c.args.place (name_view c.args.named) c.args.constructed (toks c.args.items.now) c.args.end
    c.in_err-from.field-0.0 c.in_err-from.ensures.reads)

pub returns-in_err-open-clause-reads : goal.returns-in_err-open-clause-reads
returns-in_err-open-clause-reads c =
    let p = err_from_is_err_and c.from_residual-in_err-open.result c.from_residual-in_err-open.ensures.1 in
    rw (p.1, p.2) (no_brace c.args.place (name_view c.args.named) c.args.constructed c.in_ok-from.from
    (toks c.args.items.now) (toks c.in_ok-from.rest.now) c.args.end c.in_err-open.field-0.0
    c.in_ok-from.ensures.reads c.in_err-open.ensures.reads)

pub returns-in_err-first-clause-reads : goal.returns-in_err-first-clause-reads
returns-in_err-first-clause-reads c =
    let p = err_from_is_err_and c.from_residual-in_err-first.result c.from_residual-in_err-first.ensures.1 in
    rw (p.1, p.2) (no_first_name c.args.place (name_view c.args.named) c.args.constructed c.in_ok-from.from
    c.in_ok-open.open (toks c.args.items.now) (toks c.in_ok-from.rest.now) (toks c.in_ok-open.rest.now) c.args.end
    c.in_err-first.field-0.0 c.in_ok-from.ensures.reads c.in_ok-open.ensures.reads c.in_err-first.ensures.reads)

pub returns-in_err-more-clause-reads : goal.returns-in_err-more-clause-reads
returns-in_err-more-clause-reads c =
    let p = err_from_is_err_and c.from_residual-in_err-more.result c.from_residual-in_err-more.ensures.1 in
    rw (p.1, p.2) (in_more_names c.args.place (name_view c.args.named) c.args.constructed c.in_ok-from.from
    c.in_ok-open.open (name_view c.in_ok-first.first) (toks c.args.items.now) (toks c.in_ok-from.rest.now)
    (toks c.in_ok-open.rest.now) (toks c.in_ok-first.rest.now) c.args.end c.in_err-more.field-0.0
    c.in_ok-from.ensures.reads c.in_ok-open.ensures.reads c.in_ok-first.ensures.reads c.in_err-more.ensures.reads)

pub returns-in_err-close-clause-reads : goal.returns-in_err-close-clause-reads
returns-in_err-close-clause-reads c =
    let p = err_from_is_err_and c.from_residual-in_err-close.result c.from_residual-in_err-close.ensures.1 in
    rw (p.1, p.2) (no_close c.args.place (name_view c.args.named) c.args.constructed c.in_ok-from.from c.in_ok-open.open
    (name_view c.in_ok-first.first) _ (toks c.args.items.now) (toks c.in_ok-from.rest.now)
    (toks c.in_ok-open.rest.now) (toks c.in_ok-first.rest.now) (toks c.in_ok-more.rest.now) c.args.end
    c.in_err-close.field-0.0 c.in_ok-from.ensures.reads c.in_ok-open.ensures.reads c.in_ok-first.ensures.reads
    c.in_ok-more.ensures.reads.0 c.in_ok-more.ensures.reads.2 c.in_err-close.ensures.reads)

pub returns-in_err-declaration_ends-clause-reads : goal.returns-in_err-declaration_ends-clause-reads
returns-in_err-declaration_ends-clause-reads c =
    let p = err_from_is_err_and c.from_residual-in_err-declaration_ends.result
    c.from_residual-in_err-declaration_ends.ensures.1 in
    rw (p.1, p.2) (behind_construction c.args.place (name_view c.args.named) c.args.constructed c.in_ok-from.from
    c.in_ok-open.open (name_view c.in_ok-first.first) _ c.in_ok-close.close (toks c.args.items.now)
    (toks c.in_ok-from.rest.now) (toks c.in_ok-open.rest.now) (toks c.in_ok-first.rest.now)
    (toks c.in_ok-more.rest.now) (toks c.in_ok-close.last.now) c.args.end c.in_err-declaration_ends.field-0.0
    c.in_ok-from.ensures.reads c.in_ok-open.ensures.reads c.in_ok-first.ensures.reads c.in_ok-more.ensures.reads.0
    c.in_ok-close.ensures.reads c.in_err-declaration_ends.ensures)
