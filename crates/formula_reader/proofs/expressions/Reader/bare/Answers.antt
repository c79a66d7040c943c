use Rattle.std.proofs.lemmas.Result.{err_from_is_err_and}
use Rattle.grammar.specs.Terminals.{toks}
use Rattle.grammar.specs.View.{factor_view}
use Rattle.token_reader.proofs.Inside.{fails_in}
use Rattle.formula_reader.proofs.InFactors.{in_minuses, factor_unsealed, factor_ends}
use Rattle.formula_reader.proofs.expressions.Reader.bare.Goals as goal

pub returns-in_err-found-clause-reads : goal.returns-in_err-found-clause-reads
returns-in_err-found-clause-reads g c =
    let p = err_from_is_err_and c.from_residual.result c.from_residual.ensures.1 in
    rw (p.1, p.2) (λ ps ts is. fails_in c.args.self.now.end c.in_err-found.field-0.0
    (in_minuses ps ts (toks c.args.items.now) is) c.in_err-found.ensures.reads)

pub returns-in_err-sealed-clause-reads : goal.returns-in_err-sealed-clause-reads
returns-in_err-sealed-clause-reads g c =
    let p = err_from_is_err_and c.from_residual-in_err-sealed.result c.from_residual-in_err-sealed.ensures.1 in
    rw (p.1, p.2) (λ ps ts is. factor_unsealed ps (factor_view c.in_ok-found.found) ts (toks c.args.items.now)
    (toks c.in_ok-found.last.now) c.args.self.now.end c.in_err-sealed.field-0.0
    is c.in_ok-found.ensures.reads c.in_err-sealed.ensures.err)

pub returns-clause-reads : goal.returns-clause-reads
returns-clause-reads g c = λ ps ts is. factor_ends ps (factor_view c.in_ok-found.found) ts (toks c.args.items.now)
    (toks c.in_ok-found.last.now) is c.in_ok-found.ensures.reads c.in_ok-sealed.ensures.ok
