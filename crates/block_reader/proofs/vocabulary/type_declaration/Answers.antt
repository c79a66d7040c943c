use Rattle.std.proofs.lemmas.Result.{err_from_is_err_and}
use Rattle.grammar.specs.Terminals.{toks}
use Rattle.grammar.specs.View.{name_view}
use Rattle.block_reader.proofs.InVocabulary.{no_type_name, in_isa}
use Rattle.block_reader.proofs.vocabulary.type_declaration.Goals as goal

pub returns-in_err-name-clause-reads : goal.returns-in_err-name-clause-reads
returns-in_err-name-clause-reads c =
    let p = err_from_is_err_and c.from_residual.result c.from_residual.ensures.1 in
    rw (p.1, p.2) (no_type_name c.args.place (toks c.args.items.now) c.args.end c.in_err-name.field-0.0
    c.in_err-name.ensures.reads)

pub returns-in_err-isa-clause-reads : goal.returns-in_err-isa-clause-reads
returns-in_err-isa-clause-reads c =
    let p = err_from_is_err_and c.from_residual-in_err-isa.result c.from_residual-in_err-isa.ensures.1 in
    rw (p.1, p.2) (in_isa c.args.place (name_view c.in_ok-name.name) (toks c.args.items.now)
    (toks c.in_ok-name.rest.now) c.args.end c.in_err-isa.field-0.0 c.in_ok-name.ensures.reads
    c.in_default.ensures.none c.in_err-isa.ensures.reads)
