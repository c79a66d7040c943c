use Rattle.std.proofs.lemmas.Result.{err_from_is_err_and}
use Rattle.grammar.specs.Terminals.{toks}
use Rattle.grammar.specs.BlockView.{row_view}
use Rattle.grammar.specs.BlockSpelling.{put_value}
use Rattle.block_reader.proofs.InVocabulary.{closes_there}
use Rattle.block_reader.proofs.InStructure.{table_first, table_more}
use Rattle.block_reader.proofs.structure.table.Goals as goal

pub returns-in_err-first-clause-reads : goal.returns-in_err-first-clause-reads
returns-in_err-first-clause-reads c =
    let p = err_from_is_err_and c.from_residual.result c.from_residual.ensures.1 in
    rw (p.1, p.2) (table_first c.args.begin (toks c.args.items.now) c.args.end c.in_err-first.field-0.0
    c.in_default.ensures.none c.in_err-first.ensures.reads)

pub returns-in_err-tails-clause-reads : goal.returns-in_err-tails-clause-reads
returns-in_err-tails-clause-reads c =
    let p = err_from_is_err_and c.from_residual-in_err-tails.result c.from_residual-in_err-tails.ensures.1 in
    rw (p.1, p.2) (table_more c.args.begin (row_view c.in_ok-first.first) (toks c.args.items.now)
    (toks c.in_ok-first.rest.now) c.args.end c.in_err-tails.field-0.0 c.in_default.ensures.none
    c.in_ok-first.ensures.reads.0 c.in_ok-first.ensures.reads.2 c.in_err-tails.ensures.reads)

pub returns-in_err-close-clause-reads : goal.returns-in_err-close-clause-reads
returns-in_err-close-clause-reads c =
    let p = err_from_is_err_and c.from_residual-in_err-close.result c.from_residual-in_err-close.ensures.1 in
    rw (p.1, p.2) (closes_there put_value _ (toks c.in_ok-tails.rest.now) c.args.end c.in_err-close.field-0.0
    c.in_ok-tails.ensures.reads.2 c.in_err-close.ensures.reads)
