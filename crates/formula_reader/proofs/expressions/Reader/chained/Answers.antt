use Rattle.std.proofs.Common.{◌∷◌, [], true, refl}
use Rattle.std.proofs.lemmas.Result.{err_from_is_err_and}
use Rattle.grammar.specs.declared.terminal.Terminal.TheVariants as t
use Rattle.grammar.specs.Terminals.{toks, sign}
use Rattle.grammar.specs.View.{or_view, link_view}
use Rattle.token_reader.proofs.Inside.{fails_in}
use Rattle.formula_reader.proofs.InChains.{links_first, links_more, in_links}
use Rattle.formula_reader.proofs.expressions.Reader.chained.Goals as goal

pub returns-in_err-operand-clause-reads : goal.returns-in_err-operand-clause-reads
returns-in_err-operand-clause-reads g c =
    let p = err_from_is_err_and c.from_residual.result c.from_residual.ensures.1 in
    rw (p.1, p.2) (λ ts first. fails_in c.args.self.now.end c.in_err-operand.field-0.0
    (in_links ts c.args.arrow (or_view c.args.first) [] true (sign (t.Arrow c.args.arrow) c.args.place
    ∷ toks c.args.items.now) c.args.place
    (toks c.args.items.now) (links_first ts c.args.arrow (or_view c.args.first) true _ first) refl refl)
    c.in_err-operand.ensures.reads)

pub returns-in_err-last-clause-reads : goal.returns-in_err-last-clause-reads
returns-in_err-last-clause-reads g c =
    let p = err_from_is_err_and c.from_residual-in_err-last.result c.from_residual-in_err-last.ensures.1 in
    rw (p.1, p.2) (λ ts first. c.in_err-last.ensures.reads ts (or_view c.args.first) (link_view c.link-next.result)
    (rw (c.new-more.ensures, c.link-next.ensures)
    (links_more ts c.args.arrow (or_view c.args.first) [] true _ c.args.place _ _ _ _
    (links_first ts c.args.arrow (or_view c.args.first) true _ first) refl refl c.in_ok-operand.ensures.reads)))

pub returns-clause-reads : goal.returns-clause-reads
returns-clause-reads g c =
    rw (c.in_ok-chain.ensures, c.into_inner.ensures) (λ ts first. c.in_ok-last.ensures.reads ts (or_view c.args.first)
    (link_view c.link-next.result)
    (rw (c.new-more.ensures, c.link-next.ensures)
    (links_more ts c.args.arrow (or_view c.args.first) [] true _ c.args.place _ _ _ _
    (links_first ts c.args.arrow (or_view c.args.first) true _ first) refl refl c.in_ok-operand.ensures.reads)))

pub returns-clause-kind : goal.returns-clause-kind
returns-clause-kind g c = rw c.in_ok-chain.ensures refl
