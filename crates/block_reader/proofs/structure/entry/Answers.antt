use Rattle.std.proofs.lemmas.Result.{err_from_is_err_and}
use Rattle.grammar.specs.Terminals.{toks}
use Rattle.grammar.specs.View.{name_view}
use Rattle.block_reader.specs.BlockReads.{marked}
use Rattle.block_reader.proofs.InStructure.{no_entry, entry_equal, entry_value}
use Rattle.block_reader.proofs.structure.entry.Goals as goal

pub returns-in_err-name-clause-reads : goal.returns-in_err-name-clause-reads
returns-in_err-name-clause-reads c =
    let p = err_from_is_err_and c.from_residual.result c.from_residual.ensures.1 in
    rw (p.1, p.2) (no_entry (toks c.args.items.now) c.args.end c.in_err-name.field-0.0 c.in_err-name.ensures.reads)

pub returns-in_err-given-clause-reads : goal.returns-in_err-given-clause-reads
returns-in_err-given-clause-reads c =
    let p = err_from_is_err_and c.from_residual-in_err-given.result c.from_residual-in_err-given.ensures.1 in
    rw (p.1, p.2) (entry_equal (name_view c.in_ok-name.name) (toks c.args.items.now) (toks c.in_ok-name.rest.now)
    c.args.end c.in_err-given.field-0.0 c.in_ok-name.ensures.reads c.in_err-given.ensures.reads)

pub returns-in_err-value-clause-reads : goal.returns-in_err-value-clause-reads
returns-in_err-value-clause-reads c =
    let p = err_from_is_err_and c.from_residual-in_err-value.result c.from_residual-in_err-value.ensures.1 in
    rw (p.1, p.2) (entry_value (name_view c.in_ok-name.name) (marked c.in_ok-given.given) (toks c.args.items.now)
    (toks c.in_ok-name.rest.now) (toks c.in_ok-given.rest.now) c.args.end c.in_err-value.field-0.0
    c.in_ok-name.ensures.reads c.in_ok-given.ensures.reads.0 c.in_err-value.ensures.reads)
