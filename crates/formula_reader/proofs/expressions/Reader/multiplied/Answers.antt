use Rattle.std.proofs.Common.{refl}
use Rattle.std.proofs.lemmas.Result.{err_from_is_err_and}
use Rattle.grammar.specs.Terminals.{toks}
use Rattle.grammar.specs.Spelling.{put_factor}
use Rattle.grammar.specs.View.{factor_view}
use Rattle.formula_reader.proofs.expressions.Reader.multiplied.Goals as goal

pub returns-in_err-rest-clause-reads : goal.returns-in_err-rest-clause-reads
returns-in_err-rest-clause-reads g c =
    let p = err_from_is_err_and c.from_residual.result c.from_residual.ensures.1 in
    let reads = c.in_err-rest.ensures.reads (put_factor (factor_view c.args.first) (toks c.args.items.now))
    (factor_view c.args.first) in
    rw (p.1, p.2) (rw c.new-more.ensures at reads refl c.requires.fine)

pub returns-clause-reads : goal.returns-clause-reads
returns-clause-reads g c =
    let reads = c.in_ok-rest.ensures.reads (put_factor (factor_view c.args.first) (toks c.args.items.now))
    (factor_view c.args.first) in
    rw (c.in_ok-chain.ensures, c.into_inner.ensures) (rw c.new-more.ensures at reads refl c.requires.fine)
