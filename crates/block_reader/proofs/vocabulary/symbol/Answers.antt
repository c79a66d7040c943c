use Rattle.std.proofs.lemmas.Result.{err_from_is_err_and}
use Rattle.grammar.specs.Terminals.{toks}
use Rattle.grammar.specs.View.{name_view}
use Rattle.block_reader.proofs.InVocabulary.{no_declaration, in_arguments, in_result}
use Rattle.block_reader.proofs.vocabulary.symbol.Goals as goal

pub returns-in_err-name-clause-reads : goal.returns-in_err-name-clause-reads
returns-in_err-name-clause-reads c =
    let p = err_from_is_err_and c.from_residual.result c.from_residual.ensures.1 in
    λ never. rw (p.1, p.2) (no_declaration (toks c.args.items.now) c.args.end c.in_err-name.field-0.0 never
    c.in_err-name.ensures.reads)

pub returns-in_err-arguments-clause-reads : goal.returns-in_err-arguments-clause-reads
returns-in_err-arguments-clause-reads c =
    let p = err_from_is_err_and c.from_residual-in_err-arguments.result c.from_residual-in_err-arguments.ensures.1 in
    λ never. rw (p.1, p.2) (in_arguments (name_view c.in_ok-name.name) (toks c.args.items.now)
    (toks c.in_ok-name.rest.now) c.args.end c.in_err-arguments.field-0.0 never c.in_ok-name.ensures.reads
    c.in_err-arguments.ensures.reads)

pub returns-in_err-given-clause-reads : goal.returns-in_err-given-clause-reads
returns-in_err-given-clause-reads c =
    let p = err_from_is_err_and c.from_residual-in_err-given.result c.from_residual-in_err-given.ensures.1 in
    λ never. rw (p.1, p.2) (in_result (name_view c.in_ok-name.name) _ (toks c.args.items.now)
    (toks c.in_ok-name.rest.now) (toks c.in_ok-arguments.rest.now) c.args.end c.in_err-given.field-0.0 never
    c.in_ok-name.ensures.reads c.in_ok-arguments.ensures.reads.0 c.in_ok-arguments.ensures.reads.2
    c.in_err-given.ensures.reads)
