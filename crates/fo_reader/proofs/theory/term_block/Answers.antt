use Rattle.std.proofs.Common.{◌∷◌}
use Rattle.std.proofs.lemmas.Result.{err_from_is_err_and}
use Rattle.grammar.specs.declared.terminal.Terminal.TheVariants as t
use Rattle.grammar.specs.declared.terminal.Outer.TheVariants as o
use Rattle.grammar.specs.Terminals.{toks, sign}
use Rattle.grammar.specs.View.{term_view}
use Rattle.grammar.specs.BlockSpelling.{put_term_block}
use Rattle.grammar.specs.BlockFine.{FineTermBlock}
use Rattle.grammar.specs.BlockView.{header_view}
use Rattle.block_reader.specs.BlockParts.{Anything}
use Rattle.fo_reader.proofs.InTheory.{term_header, term_value, term_stop, comes_there}
use Rattle.fo_reader.proofs.theory.term_block.Goals as goal

pub returns-in_err-header-clause-reads : goal.returns-in_err-header-clause-reads
returns-in_err-header-clause-reads c =
    let p = err_from_is_err_and c.from_residual.result c.from_residual.ensures.1 in
    rw (p.1, p.2) (term_header (sign (t.Outer o.Term) c.args.place ∷ toks c.args.items.now) c.args.end
    c.in_err-header.field-0.0 c.in_err-header.ensures.reads)

pub returns-in_err-term-clause-reads : goal.returns-in_err-term-clause-reads
returns-in_err-term-clause-reads c =
    let p = err_from_is_err_and c.from_residual-in_err-term.result c.from_residual-in_err-term.ensures.1 in
    rw (p.1, p.2) (term_value (header_view c.in_ok-header.header)
    (sign (t.Outer o.Term) c.args.place ∷ toks c.args.items.now) (toks c.in_ok-header.rest.now) c.args.end
    c.in_err-term.field-0.0 c.in_ok-header.ensures.reads.0 c.in_err-term.ensures.reads)

pub returns-in_err-dot-clause-reads : goal.returns-in_err-dot-clause-reads
returns-in_err-dot-clause-reads c =
    let p = err_from_is_err_and c.from_residual-in_err-dot.result c.from_residual-in_err-dot.ensures.1 in
    rw (p.1, p.2) (term_stop (header_view c.in_ok-header.header) (term_view c.in_ok-term.term)
    (sign (t.Outer o.Term) c.args.place ∷ toks c.args.items.now) (toks c.in_ok-header.rest.now)
    (toks c.in_ok-term.rest.now) c.args.end c.in_err-dot.field-0.0 c.in_ok-header.ensures.reads.0
    c.in_ok-term.ensures.reads.0 c.in_ok-term.ensures.reads.1 c.in_ok-term.ensures.reads.2
    c.in_err-dot.ensures.reads)

pub returns-in_err-close-clause-reads : goal.returns-in_err-close-clause-reads
returns-in_err-close-clause-reads c =
    let p = err_from_is_err_and c.from_residual-in_err-close.result c.from_residual-in_err-close.ensures.1 in
    rw (p.1, p.2) (comes_there put_term_block FineTermBlock Anything t.CloseBrace
    (sign (t.Outer o.Term) c.args.place ∷ toks c.args.items.now) (toks c.in_ok-dot.rest.now) c.args.end
    c.in_err-close.field-0.0 c.in_ok-dot.ensures.reads.2 c.in_err-close.ensures.reads)
