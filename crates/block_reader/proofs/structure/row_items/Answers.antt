use Rattle.std.proofs.lemmas.Result.{err_from_is_err_and}
use Rattle.grammar.specs.Terminals.{toks}
use Rattle.grammar.specs.BlockView.{item_view}
use Rattle.block_reader.proofs.InStructure.{items_first, items_more}
use Rattle.block_reader.proofs.structure.row_items.Goals as goal

pub returns-in_err-first-clause-reads : goal.returns-in_err-first-clause-reads
returns-in_err-first-clause-reads c =
    let p = err_from_is_err_and c.from_residual.result c.from_residual.ensures.1 in
    rw (p.1, p.2) (items_first (toks c.args.items.now) c.args.end c.in_err-first.field-0.0 c.in_err-first.ensures.reads)

pub returns-in_err-more-clause-reads : goal.returns-in_err-more-clause-reads
returns-in_err-more-clause-reads c =
    let p = err_from_is_err_and c.from_residual-in_err-more.result c.from_residual-in_err-more.ensures.1 in
    rw (p.1, p.2) (items_more (item_view c.in_ok-first.first) (toks c.args.items.now) (toks c.in_ok-first.rest.now)
    c.args.end c.in_err-more.field-0.0 c.in_ok-first.ensures.reads.0 c.in_ok-first.ensures.reads.2
    c.in_err-more.ensures.reads)
