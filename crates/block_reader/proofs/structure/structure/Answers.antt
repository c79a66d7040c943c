use Rattle.std.proofs.Common.{◌∷◌}
use Rattle.std.proofs.lemmas.Result.{err_from_is_err_and}
use Rattle.grammar.specs.declared.terminal.Terminal.TheVariants as t
use Rattle.grammar.specs.declared.terminal.Outer.TheVariants as o
use Rattle.grammar.specs.Terminals.{toks, sign}
use Rattle.grammar.specs.BlockView.{header_view}
use Rattle.grammar.specs.BlockSpelling.{put_structure}
use Rattle.block_reader.proofs.InVocabulary.{closes_there}
use Rattle.block_reader.proofs.InStructure.{structure_header, structure_entries}
use Rattle.block_reader.proofs.structure.structure.Goals as goal

pub returns-in_err-header-clause-reads : goal.returns-in_err-header-clause-reads
returns-in_err-header-clause-reads c =
    let p = err_from_is_err_and c.from_residual.result c.from_residual.ensures.1 in
    rw (p.1, p.2) (structure_header (sign (t.Outer o.Structure) c.args.place ∷ toks c.args.items.now) c.args.end
    c.in_err-header.field-0.0 c.in_err-header.ensures.reads)

pub returns-in_err-entries-clause-reads : goal.returns-in_err-entries-clause-reads
returns-in_err-entries-clause-reads c =
    let p = err_from_is_err_and c.from_residual-in_err-entries.result c.from_residual-in_err-entries.ensures.1 in
    rw (p.1, p.2) (structure_entries (header_view c.in_ok-header.header)
    (sign (t.Outer o.Structure) c.args.place ∷ toks c.args.items.now) (toks c.in_ok-header.rest.now) c.args.end
    c.in_err-entries.field-0.0 c.in_ok-header.ensures.reads.0 c.in_err-entries.ensures.reads)

pub returns-in_err-close-clause-reads : goal.returns-in_err-close-clause-reads
returns-in_err-close-clause-reads c =
    let p = err_from_is_err_and c.from_residual-in_err-close.result c.from_residual-in_err-close.ensures.1 in
    rw (p.1, p.2) (closes_there put_structure _ (toks c.in_ok-entries.rest.now) c.args.end c.in_err-close.field-0.0
    c.in_ok-entries.ensures.reads.2 c.in_err-close.ensures.reads)
