use Rattle.std.proofs.lemmas.Result.{err_from_is_err_and}
use Rattle.grammar.specs.Terminals.{toks}
use Rattle.grammar.specs.View.{name_view}
use Rattle.block_reader.proofs.InVocabulary.{named_none, named_in, named_behind}
use Rattle.block_reader.proofs.vocabulary.named.Goals as goal

pub returns-in_err-declaration_ends-clause-reads : goal.returns-in_err-declaration_ends-clause-reads
returns-in_err-declaration_ends-clause-reads c =
    let p = err_from_is_err_and c.from_residual.result c.from_residual.ensures.1 in
    rw (p.1, p.2) (named_none c.args.with c.requires.brace c.requires.another (toks c.args.items.now) c.args.end
    c.in_err-declaration_ends.field-0.0 c.in_default.ensures.none c.in_err-declaration_ends.ensures)

pub returns-in_err-found-clause-reads : goal.returns-in_err-found-clause-reads
returns-in_err-found-clause-reads c =
    let p = err_from_is_err_and c.from_residual-in_err-found.result c.from_residual-in_err-found.ensures.1 in
    rw (p.1, p.2) (named_in c.args.with c.requires.brace c.requires.another c.in-Some.place (toks c.args.items.now)
    (toks c.in-Some.behind.now) c.args.end c.in_err-found.field-0.0 c.in-Some.ensures.some
    c.in_err-found.ensures.reads)

pub returns-in_err-declaration_ends-2-clause-reads : goal.returns-in_err-declaration_ends-2-clause-reads
returns-in_err-declaration_ends-2-clause-reads c =
    let p = err_from_is_err_and c.from_residual-in_err-declaration_ends-2.result
    c.from_residual-in_err-declaration_ends-2.ensures.1 in
    rw (p.1, p.2) (named_behind c.args.with c.requires.brace c.requires.another c.in-Some.place
    (name_view c.in_ok-found.found) (toks c.args.items.now) (toks c.in-Some.behind.now)
    (toks c.in_ok-found.rest.now) c.args.end c.in_err-declaration_ends-2.field-0.0 c.in-Some.ensures.some
    c.in_ok-found.ensures.reads c.in_err-declaration_ends-2.ensures)
