use Rattle.std.proofs.lemmas.Result.{err_from_is_err_and}
use Rattle.grammar.specs.declared.terminal.Terminal.TheVariants as t
use Rattle.grammar.specs.declared.terminal.Outer.TheVariants as o
use Rattle.grammar.specs.Terminals.{toks}
use Rattle.grammar.specs.BlockSpelling.{put_theory_item}
use Rattle.grammar.specs.BlockFine.{FineTheoryItem}
use Rattle.block_reader.specs.BlockParts.{Anything}
use Rattle.fo_reader.proofs.InTheory.{in_sentence, comes_there}
use Rattle.fo_reader.proofs.theory.theory_item.Goals as goal

pub returns-in_err-formula-clause-reads : goal.returns-in_err-formula-clause-reads
returns-in_err-formula-clause-reads c =
    let p = err_from_is_err_and c.from_residual.result c.from_residual.ensures.1 in
    rw (p.1, p.2) (in_sentence (toks c.args.items.now) c.args.end c.in_err-formula.field-0.0 c.in_default.ensures.none
    c.in_err-formula.ensures.reads)

pub returns-in_err-dot-clause-reads : goal.returns-in_err-dot-clause-reads
returns-in_err-dot-clause-reads c =
    let p = err_from_is_err_and c.from_residual-in_err-dot.result c.from_residual-in_err-dot.ensures.1 in
    rw (p.1, p.2) (comes_there put_theory_item FineTheoryItem Anything (t.Outer o.Dot) (toks c.args.items.now)
    (toks c.in_ok-formula.rest.now) c.args.end c.in_err-dot.field-0.0 c.in_ok-formula.ensures.reads.2
    c.in_err-dot.ensures.reads)
