use Rattle.std.proofs.Common.{◌∷◌}
use Rattle.std.proofs.lemmas.Result.{err_from_is_err_and}
use Rattle.grammar.specs.declared.terminal.Terminal.TheVariants as t
use Rattle.grammar.specs.Terminals.{toks, sign}
use Rattle.grammar.specs.BlockSpelling.{put_theory_item}
use Rattle.grammar.specs.BlockFine.{FineTheoryItem}
use Rattle.block_reader.specs.BlockParts.{Anything}
use Rattle.fo_reader.proofs.InTheory.{in_definition, comes_there}
use Rattle.fo_reader.proofs.theory.definition.Goals as goal

pub returns-in_err-rules-clause-reads : goal.returns-in_err-rules-clause-reads
returns-in_err-rules-clause-reads c =
    let p = err_from_is_err_and c.from_residual.result c.from_residual.ensures.1 in
    rw (p.1, p.2) (in_definition c.args.begin (toks c.args.items.now) c.args.end c.in_err-rules.field-0.0
    c.in_err-rules.ensures.reads)

pub returns-in_err-close-clause-reads : goal.returns-in_err-close-clause-reads
returns-in_err-close-clause-reads c =
    let p = err_from_is_err_and c.from_residual-in_err-close.result c.from_residual-in_err-close.ensures.1 in
    rw (p.1, p.2) (comes_there put_theory_item FineTheoryItem Anything t.CloseBrace
    (sign t.OpenBrace c.args.begin ∷ toks c.args.items.now) (toks c.in_ok-rules.rest.now) c.args.end
    c.in_err-close.field-0.0 c.in_ok-rules.ensures.reads.2 c.in_err-close.ensures.reads)
