use Rattle.std.proofs.lemmas.Result.{err_from_is_err_and}
use Rattle.grammar.specs.Terminals.{toks}
use Rattle.grammar.specs.View.{name_view}
use Rattle.block_reader.proofs.InStructure.{no_header_name, no_header_colon, no_header_of, no_header_brace}
use Rattle.block_reader.proofs.structure.header.Goals as goal

pub returns-in_err-called-clause-reads : goal.returns-in_err-called-clause-reads
returns-in_err-called-clause-reads c =
    let p = err_from_is_err_and c.from_residual.result c.from_residual.ensures.1 in
    rw (p.1, p.2) (no_header_name c.args.with c.args.place (toks c.args.items.now) c.args.end c.in_err-called.field-0.0
    c.in_err-called.ensures.reads)

pub returns-in_err-colon-clause-reads : goal.returns-in_err-colon-clause-reads
returns-in_err-colon-clause-reads c =
    let p = err_from_is_err_and c.from_residual-in_err-colon.result c.from_residual-in_err-colon.ensures.1 in
    rw (p.1, p.2) (no_header_colon c.args.with c.args.place (name_view c.in_ok-called.called) (toks c.args.items.now)
    (toks c.in_ok-called.rest.now) c.args.end c.in_err-colon.field-0.0 c.in_ok-called.ensures.reads
    c.in_err-colon.ensures.reads)

pub returns-in_err-of-clause-reads : goal.returns-in_err-of-clause-reads
returns-in_err-of-clause-reads c =
    let p = err_from_is_err_and c.from_residual-in_err-of.result c.from_residual-in_err-of.ensures.1 in
    rw (p.1, p.2) (no_header_of c.args.with c.args.place (name_view c.in_ok-called.called) c.in_ok-colon.colon
    (toks c.args.items.now) (toks c.in_ok-called.rest.now) (toks c.in_ok-colon.rest.now) c.args.end
    c.in_err-of.field-0.0 c.in_ok-called.ensures.reads c.in_ok-colon.ensures.reads c.in_err-of.ensures.reads)

pub returns-in_err-open-clause-reads : goal.returns-in_err-open-clause-reads
returns-in_err-open-clause-reads c =
    let p = err_from_is_err_and c.from_residual-in_err-open.result c.from_residual-in_err-open.ensures.1 in
    rw (p.1, p.2) (no_header_brace c.args.with c.args.place (name_view c.in_ok-called.called) c.in_ok-colon.colon
    (name_view c.in_ok-of.of) (toks c.args.items.now) (toks c.in_ok-called.rest.now) (toks c.in_ok-colon.rest.now)
    (toks c.in_ok-of.rest.now) c.args.end c.in_err-open.field-0.0 c.in_ok-called.ensures.reads
    c.in_ok-colon.ensures.reads c.in_ok-of.ensures.reads c.in_err-open.ensures.reads)
