use Rattle.std.proofs.lemmas.Result.{err_from_is_err_and}
use Rattle.grammar.specs.Terminals.{toks}
use Rattle.grammar.specs.BlockView.{items_view}
use Rattle.block_reader.proofs.InStructure.{plain_items, plain_arrow}
use Rattle.block_reader.proofs.structure.plain.Goals as goal

pub returns-in_err-found-clause-reads : goal.returns-in_err-found-clause-reads
returns-in_err-found-clause-reads c =
    let p = err_from_is_err_and c.from_residual.result c.from_residual.ensures.1 in
    λ a b. rw (p.1, p.2) (plain_items (toks c.args.items.now) c.args.end c.in_err-found.field-0.0 a b
    c.in_err-found.ensures.reads)

pub returns-in_err-to-clause-reads : goal.returns-in_err-to-clause-reads
returns-in_err-to-clause-reads c =
    let p = err_from_is_err_and c.from_residual-in_err-to.result c.from_residual-in_err-to.ensures.1 in
    λ a b. rw (p.1, p.2) (plain_arrow (items_view c.in_ok-found.found) (toks c.args.items.now)
    (toks c.in_ok-found.rest.now) c.args.end c.in_err-to.field-0.0 a b c.in_ok-found.ensures.reads.0
    c.in_ok-found.ensures.reads.2 c.in_err-to.ensures.reads)
