use Rattle.std.proofs.lemmas.Result.{err_from_is_err_and}
use Rattle.grammar.specs.Terminals.{toks}
use Rattle.grammar.specs.BlockView.{element_view}
use Rattle.block_reader.proofs.InStructure.{item_first, item_alone, in_range, behind_range}
use Rattle.block_reader.proofs.structure.item.Goals as goal

pub returns-in_err-first-clause-reads : goal.returns-in_err-first-clause-reads
returns-in_err-first-clause-reads c =
    let p = err_from_is_err_and c.from_residual.result c.from_residual.ensures.1 in
    rw (p.1, p.2) (item_first (toks c.args.items.now) c.args.end c.in_err-first.field-0.0 c.in_err-first.ensures.reads)

pub returns-in_err-item_ends-clause-reads : goal.returns-in_err-item_ends-clause-reads
returns-in_err-item_ends-clause-reads c =
    let p = err_from_is_err_and c.from_residual-in_err-item_ends.result c.from_residual-in_err-item_ends.ensures.1 in
    rw (p.1, p.2) (item_alone (element_view c.in_ok-first.first) (toks c.args.items.now) (toks c.in_ok-first.rest.now)
    c.args.end c.in_err-item_ends.field-0.0 c.in_ok-first.ensures.reads.0 c.in_default.ensures.none
    c.in_err-item_ends.ensures)

pub returns-in_err-last-clause-reads : goal.returns-in_err-last-clause-reads
returns-in_err-last-clause-reads c =
    let p = err_from_is_err_and c.from_residual-in_err-last.result c.from_residual-in_err-last.ensures.1 in
    rw (p.1, p.2) (in_range (element_view c.in_ok-first.first) c.in-Some.place (toks c.args.items.now)
    (toks c.in_ok-first.rest.now) (toks c.in-Some.behind.now) c.args.end c.in_err-last.field-0.0
    c.in_ok-first.ensures.reads.0 c.in-Some.ensures.some c.in_err-last.ensures.reads)

pub returns-in_err-item_ends-2-clause-reads : goal.returns-in_err-item_ends-2-clause-reads
returns-in_err-item_ends-2-clause-reads c =
    let p = err_from_is_err_and c.from_residual-in_err-item_ends-2.result
    c.from_residual-in_err-item_ends-2.ensures.1 in
    rw (p.1, p.2) (behind_range (element_view c.in_ok-first.first) c.in-Some.place (element_view c.in_ok-last.last)
    (toks c.args.items.now) (toks c.in_ok-first.rest.now) (toks c.in-Some.behind.now) (toks c.in_ok-last.behind.now)
    c.args.end c.in_err-item_ends-2.field-0.0 c.in_ok-first.ensures.reads.0 c.in-Some.ensures.some
    c.in_ok-last.ensures.reads.0 c.in_err-item_ends-2.ensures)
