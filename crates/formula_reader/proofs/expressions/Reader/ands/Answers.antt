use Rattle.std.proofs.Common.{map}
use Rattle.std.proofs.lemmas.Result.{err_from_is_err_and}
use Rattle.grammar.specs.View.{unary_view, and_tail_view}
use Rattle.formula_reader.proofs.InChains.{ands_first, and_kind}
use Rattle.formula_reader.proofs.expressions.Reader.ands.Goals as goal

pub returns-in_err-closed-clause-reads : goal.returns-in_err-closed-clause-reads
returns-in_err-closed-clause-reads g c =
    let p = err_from_is_err_and c.from_residual.result c.from_residual.ensures.1 in
    rw (p.1, p.2) (λ first. c.in_err-closed.ensures.reads _ (unary_view c.args.first)
    (rw c.new-more.ensures (ands_first _ _ _ _ first)))

pub returns-clause-reads : goal.returns-clause-reads
returns-clause-reads g c = rw (c.in_ok-chain.ensures, c.into_inner.ensures)
    (λ first. c.in_ok-closed.ensures.reads _ (unary_view c.args.first)
    (rw c.new-more.ensures (ands_first _ _ _ _ first)))

pub returns-clause-kind : goal.returns-clause-kind
returns-clause-kind g c = rw (c.in_ok-chain.ensures, c.into_inner.ensures) (λ h. and_kind (unary_view c.args.first)
    (map and_tail_view c.more_ands.new.more) h)
