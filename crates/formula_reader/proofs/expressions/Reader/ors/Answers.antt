use Rattle.std.proofs.Common.{map}
use Rattle.std.proofs.lemmas.Result.{err_from_is_err_and}
use Rattle.grammar.specs.Terminals.{toks}
use Rattle.grammar.specs.Spelling.{put_unary}
use Rattle.grammar.specs.View.{unary_view, and_view, or_tail_view}
use Rattle.token_reader.proofs.Inside.{fails_in}
use Rattle.formula_reader.proofs.InChains.{ors_first, or_kind, first_and}
use Rattle.formula_reader.proofs.expressions.Reader.ors.Goals as goal

pub returns-in_err-and-clause-reads : goal.returns-in_err-and-clause-reads
returns-in_err-and-clause-reads g c =
    let p = err_from_is_err_and c.from_residual.result c.from_residual.ensures.1 in
    rw (p.1, p.2) (λ first. fails_in c.args.self.now.end c.in_err-and.field-0.0
    (first_and (put_unary (unary_view c.args.first) (toks c.args.items.now))) (c.in_err-and.ensures.reads first))

pub returns-in_err-closed-clause-reads : goal.returns-in_err-closed-clause-reads
returns-in_err-closed-clause-reads g c =
    let p = err_from_is_err_and c.from_residual-in_err-closed.result c.from_residual-in_err-closed.ensures.1 in
    rw (p.1, p.2) (λ first. c.in_err-closed.ensures.reads _ (and_view c.in_ok-and.and)
    (rw c.new-more.ensures (ors_first _ _ _ _ (c.in_ok-and.ensures.reads first))))

pub returns-clause-reads : goal.returns-clause-reads
returns-clause-reads g c = rw (c.in_ok-chain.ensures, c.into_inner.ensures)
    (λ first. c.in_ok-closed.ensures.reads _ (and_view c.in_ok-and.and)
    (rw c.new-more.ensures (ors_first _ _ _ _ (c.in_ok-and.ensures.reads first))))

pub returns-clause-kind : goal.returns-clause-kind
returns-clause-kind g c = rw (c.in_ok-chain.ensures, c.into_inner.ensures)
    (λ h. c.in_ok-and.ensures.kind (or_kind (and_view c.in_ok-and.and) (map or_tail_view c.more_ors.new.more) h))
