use Rattle.std.proofs.lemmas.Result.{err_from_is_err_and}
use Rattle.grammar.specs.Terminals.{toks}
use Rattle.grammar.specs.View.{name_view}
use Rattle.grammar.specs.BlockSpelling.{put_vocabulary}
use Rattle.block_reader.proofs.InVocabulary.{no_vocabulary_name, no_vocabulary_brace, in_vocabulary, closes_there}
use Rattle.block_reader.proofs.vocabulary.vocabulary.Goals as goal

pub returns-in_err-name-clause-reads : goal.returns-in_err-name-clause-reads
returns-in_err-name-clause-reads c =
    let p = err_from_is_err_and c.from_residual.result c.from_residual.ensures.1 in
    rw (p.1, p.2) (no_vocabulary_name c.args.place (toks c.args.items.now) c.args.end c.in_err-name.field-0.0
    c.in_err-name.ensures.reads)

pub returns-in_err-open-clause-reads : goal.returns-in_err-open-clause-reads
returns-in_err-open-clause-reads c =
    let p = err_from_is_err_and c.from_residual-in_err-open.result c.from_residual-in_err-open.ensures.1 in
    rw (p.1, p.2) (no_vocabulary_brace c.args.place (name_view c.in_ok-name.name) (toks c.args.items.now)
    (toks c.in_ok-name.rest.now) c.args.end c.in_err-open.field-0.0 c.in_ok-name.ensures.reads
    c.in_err-open.ensures.reads)

pub returns-in_err-declarations-clause-reads : goal.returns-in_err-declarations-clause-reads
returns-in_err-declarations-clause-reads c =
    let p = err_from_is_err_and c.from_residual-in_err-declarations.result
    c.from_residual-in_err-declarations.ensures.1 in
    rw (p.1, p.2) (in_vocabulary c.args.place (name_view c.in_ok-name.name) c.in_ok-open.open (toks c.args.items.now)
    (toks c.in_ok-name.rest.now) (toks c.in_ok-open.rest.now) c.args.end c.in_err-declarations.field-0.0
    c.in_ok-name.ensures.reads c.in_ok-open.ensures.reads c.in_err-declarations.ensures.reads)

pub returns-in_err-close-clause-reads : goal.returns-in_err-close-clause-reads
returns-in_err-close-clause-reads c =
    let p = err_from_is_err_and c.from_residual-in_err-close.result c.from_residual-in_err-close.ensures.1 in
    rw (p.1, p.2) (closes_there put_vocabulary _ (toks c.in_ok-declarations.rest.now) c.args.end
    c.in_err-close.field-0.0 c.in_ok-declarations.ensures.reads.2 c.in_err-close.ensures.reads)
