use Rattle.std.proofs.lemmas.Result.{err_from_is_err_and}
use Rattle.grammar.specs.Terminals.{toks}
use Rattle.token_reader.proofs.Inside.{fails_in}
use Rattle.formula_reader.proofs.InTerms.{in_brackets, unclosed_brackets}
use Rattle.formula_reader.proofs.expressions.Reader.brackets.Goals as goal

pub returns-in_err-inner-clause-reads : goal.returns-in_err-inner-clause-reads
returns-in_err-inner-clause-reads g c =
    let p = err_from_is_err_and c.from_residual.result c.from_residual.ensures.1 in
    rw (p.1, p.2) (fails_in c.args.self.now.end c.in_err-inner.field-0.0
    (in_brackets c.args.begin (toks c.args.items.now)) c.in_err-inner.ensures.reads)

pub returns-in_err-place-clause-reads : goal.returns-in_err-place-clause-reads
returns-in_err-place-clause-reads g c =
    let p = err_from_is_err_and c.from_residual-in_err-place.result c.from_residual-in_err-place.ensures.1 in
    rw (p.1, p.2) (unclosed_brackets c.args.begin _ (toks c.args.items.now) _ c.args.self.now.end
    c.in_err-place.field-0.0 c.in_ok-inner.ensures.reads c.in_err-place.ensures.reads)
