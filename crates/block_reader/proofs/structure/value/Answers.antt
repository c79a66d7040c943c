use Rattle.std.proofs.lemmas.Result.{err_from_is_err_and}
use Rattle.grammar.specs.Terminals.{toks}
use Rattle.block_reader.proofs.InStructure.{value_element}
use Rattle.block_reader.proofs.structure.value.Goals as goal

pub returns-in_err-found-clause-reads : goal.returns-in_err-found-clause-reads
returns-in_err-found-clause-reads c =
    let p = err_from_is_err_and c.from_residual.result c.from_residual.ensures.1 in
    rw (p.1, p.2) (value_element (toks c.args.items.now) c.args.end c.in_err-found.field-0.0 c.in_default.ensures.none
    c.in_default-truth.ensures.none c.in_err-found.ensures.reads)
