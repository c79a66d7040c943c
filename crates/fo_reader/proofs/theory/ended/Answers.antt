use Rattle.std.proofs.lemmas.Result.{err_from_is_err_and}
use Rattle.grammar.specs.declared.terminal.Terminal.TheVariants as t
use Rattle.grammar.specs.declared.terminal.Outer.TheVariants as o
use Rattle.grammar.specs.Terminals.{toks}
use Rattle.block_reader.specs.BlockParts.{Anything}
use Rattle.fo_reader.specs.TheoryReads.{put_ended, FineEnded}
use Rattle.fo_reader.proofs.InTheory.{ended_first, comes_there}
use Rattle.fo_reader.proofs.theory.ended.Goals as goal

pub returns-in_err-found-clause-reads : goal.returns-in_err-found-clause-reads
returns-in_err-found-clause-reads c =
    let p = err_from_is_err_and c.from_residual.result c.from_residual.ensures.1 in
    rw (p.1, p.2) (ended_first (toks c.args.items.now) c.args.end c.in_err-found.field-0.0 c.in_err-found.ensures.reads)

pub returns-in_err-dot-clause-reads : goal.returns-in_err-dot-clause-reads
returns-in_err-dot-clause-reads c =
    let p = err_from_is_err_and c.from_residual-in_err-dot.result c.from_residual-in_err-dot.ensures.1 in
    rw (p.1, p.2) (comes_there put_ended FineEnded Anything (t.Outer o.Dot) (toks c.args.items.now)
    (toks c.in_ok-found.rest.now) c.args.end c.in_err-dot.field-0.0 c.in_ok-found.ensures.reads.2
    c.in_err-dot.ensures.reads)
