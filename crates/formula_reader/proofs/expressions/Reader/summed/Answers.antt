use Rattle.std.proofs.lemmas.Result.{err_from_is_err_and}
use Rattle.grammar.specs.Terminals.{toks}
use Rattle.grammar.specs.Spelling.{put_factor}
use Rattle.grammar.specs.View.{factor_view, product_view}
use Rattle.token_reader.proofs.Inside.{fails_in}
use Rattle.formula_reader.proofs.InTerms.{first_product}
use Rattle.formula_reader.proofs.expressions.Reader.summed.Goals as goal

pub returns-in_err-product-clause-reads : goal.returns-in_err-product-clause-reads
returns-in_err-product-clause-reads g c =
    let p = err_from_is_err_and c.from_residual.result c.from_residual.ensures.1 in
    rw (p.1, p.2) (fails_in c.args.self.now.end c.in_err-product.field-0.0
    (first_product (put_factor (factor_view c.args.first) (toks c.args.items.now))) c.in_err-product.ensures.reads)

pub returns-in_err-last-clause-reads : goal.returns-in_err-last-clause-reads
returns-in_err-last-clause-reads g c =
    let p = err_from_is_err_and c.from_residual-in_err-last.result c.from_residual-in_err-last.ensures.1 in
    let reads = c.in_err-last.ensures.reads (put_factor (factor_view c.args.first) (toks c.args.items.now))
    (product_view c.in_ok-product.product) in
    rw (p.1, p.2) (rw c.new-more.ensures at reads c.in_ok-product.ensures.reads.spelled
    c.in_ok-product.ensures.reads.fine)

pub returns-clause-reads : goal.returns-clause-reads
returns-clause-reads g c =
    let reads = c.in_ok-last.ensures.reads (put_factor (factor_view c.args.first) (toks c.args.items.now))
    (product_view c.in_ok-product.product) in
    rw (c.in_ok-chain.ensures, c.into_inner.ensures)
    (rw c.new-more.ensures at reads c.in_ok-product.ensures.reads.spelled c.in_ok-product.ensures.reads.fine)
