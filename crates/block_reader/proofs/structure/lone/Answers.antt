use Rattle.std.proofs.lemmas.Result.{err_from_is_err_and}
use Rattle.grammar.specs.Terminals.{toks}
use Rattle.grammar.specs.BlockView.{element_view}
use Rattle.block_reader.proofs.InStructure.{lone_element, lone_ends}
use Rattle.block_reader.proofs.structure.lone.Goals as goal

pub returns-in_err-element-clause-reads : goal.returns-in_err-element-clause-reads
returns-in_err-element-clause-reads c =
    let p = err_from_is_err_and c.from_residual.result c.from_residual.ensures.1 in
    rw (p.1, p.2) (lone_element c.args.place (toks c.args.items.now) c.args.end c.in_err-element.field-0.0
    c.in_err-element.ensures.reads)

pub returns-in_err-row_ends-clause-reads : goal.returns-in_err-row_ends-clause-reads
returns-in_err-row_ends-clause-reads c =
    let p = err_from_is_err_and c.from_residual-in_err-row_ends.result c.from_residual-in_err-row_ends.ensures.1 in
    rw (p.1, p.2) (lone_ends c.args.place (element_view c.in_ok-element.element) (toks c.args.items.now)
    (toks c.in_ok-element.last.now) c.args.end c.in_err-row_ends.field-0.0 c.in_ok-element.ensures.reads.0
    c.in_err-row_ends.ensures)
