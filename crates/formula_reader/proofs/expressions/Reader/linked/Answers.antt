use Rattle.std.proofs.lemmas.Result.{err_from_is_err_and}
use Rattle.grammar.specs.Terminals.{toks}
use Rattle.grammar.specs.Spelling.{put_unary}
use Rattle.token_reader.specs.Machine.{fresh, unsettled}
use Rattle.grammar.specs.View.{unary_view}
use Rattle.token_reader.proofs.Inside.{fails_in}
use Rattle.formula_reader.proofs.InChains.{first_or, alone_is, at_arrow}
use Rattle.formula_reader.proofs.expressions.Reader.linked.Goals as goal

pub returns-in_err-or-clause-reads : goal.returns-in_err-or-clause-reads
returns-in_err-or-clause-reads g c =
    let p = err_from_is_err_and c.from_residual.result c.from_residual.ensures.1 in
    rw (p.1, p.2) (λ first. fails_in c.args.self.now.end c.in_err-or.field-0.0
    (first_or (put_unary (unary_view c.args.first) (toks c.args.items.now))) (c.in_err-or.ensures.reads first))

pub returns-in_default-clause-reads : goal.returns-in_default-clause-reads
returns-in_default-clause-reads g c = rw (c.in_ok-lone.ensures, c.into_inner.ensures)
    (λ first. (
      alone_is _ _ _ _ fresh (c.in_ok-or.ensures.reads first) c.in_default.ensures.none,
      alone_is _ _ _ _ unsettled (c.in_ok-or.ensures.reads first) c.in_default.ensures.none,
    ))

pub returns-in_default-clause-kind : goal.returns-in_default-clause-kind
returns-in_default-clause-kind g c = rw (c.in_ok-lone.ensures, c.into_inner.ensures) c.in_ok-or.ensures.kind

pub returns-clause-reads : goal.returns-clause-reads
returns-clause-reads g c = λ first.
    c.chained.ensures.reads _ (at_arrow _ _ _ _ _ (c.in_ok-or.ensures.reads first) c.in-Some.ensures.closed
    c.in-Some.ensures.some)
