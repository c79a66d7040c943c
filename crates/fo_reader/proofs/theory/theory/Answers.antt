use Rattle.std.proofs.Common.{◌∷◌}
use Rattle.std.proofs.lemmas.Result.{err_from_is_err_and}
use Rattle.grammar.specs.declared.terminal.Terminal.TheVariants as t
use Rattle.grammar.specs.declared.terminal.Outer.TheVariants as o
use Rattle.grammar.specs.Terminals.{toks, sign}
use Rattle.grammar.specs.BlockSpelling.{put_theory}
use Rattle.grammar.specs.BlockFine.{FineTheory}
use Rattle.grammar.specs.BlockView.{header_view}
use Rattle.block_reader.specs.BlockParts.{Anything}
use Rattle.fo_reader.proofs.InTheory.{theory_header, theory_items, comes_there}
use Rattle.fo_reader.proofs.theory.theory.Goals as goal

pub returns-in_err-header-clause-reads : goal.returns-in_err-header-clause-reads
returns-in_err-header-clause-reads c =
    let p = err_from_is_err_and c.from_residual.result c.from_residual.ensures.1 in
    rw (p.1, p.2) (theory_header (sign (t.Outer o.Theory) c.args.place ∷ toks c.args.items.now) c.args.end
    c.in_err-header.field-0.0 c.in_err-header.ensures.reads)

pub returns-in_err-items-clause-reads : goal.returns-in_err-items-clause-reads
returns-in_err-items-clause-reads c =
    let p = err_from_is_err_and c.from_residual-in_err-items.result c.from_residual-in_err-items.ensures.1 in
    rw (p.1, p.2) (theory_items (header_view c.in_ok-header.header)
    (sign (t.Outer o.Theory) c.args.place ∷ toks c.args.items.now) (toks c.in_ok-header.rest.now) c.args.end
    c.in_err-items.field-0.0 c.in_ok-header.ensures.reads.0 c.in_err-items.ensures.reads)

pub returns-in_err-close-clause-reads : goal.returns-in_err-close-clause-reads
returns-in_err-close-clause-reads c =
    let p = err_from_is_err_and c.from_residual-in_err-close.result c.from_residual-in_err-close.ensures.1 in
    rw (p.1, p.2) (comes_there put_theory FineTheory Anything t.CloseBrace
    (sign (t.Outer o.Theory) c.args.place ∷ toks c.args.items.now) (toks c.in_ok-items.rest.now) c.args.end
    c.in_err-close.field-0.0 c.in_ok-items.ensures.reads.2 c.in_err-close.ensures.reads)
