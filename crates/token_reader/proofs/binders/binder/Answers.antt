use Rattle.std.proofs.lemmas.Result.{err_from_is_err_and}
use Rattle.grammar.specs.Terminals.{toks}
use Rattle.grammar.specs.View.{var_view}
use Rattle.token_reader.proofs.Binds.{vars_first_one}
use Rattle.token_reader.proofs.binders.binder.Goals as goal

pub returns-in_err-place-clause-reads : goal.returns-in_err-place-clause-reads
returns-in_err-place-clause-reads c =
    let p = err_from_is_err_and c.from_residual-in_err-place.result c.from_residual-in_err-place.ensures.1 in
    let one = c.in_ok-first.ensures.reads in
    let reads = c.in_err-place.ensures.reads (toks c.args.items.now) (var_view c.in_ok-first.first) in
    rw (p.1, p.2) (rw c.new-more.ensures at reads (vars_first_one _ _ _ one.0 one.1))

pub returns-clause-reads : goal.returns-clause-reads
returns-clause-reads c =
    let one = c.in_ok-first.ensures.reads in
    let reads = c.in_ok-place.ensures.reads (toks c.args.items.now) (var_view c.in_ok-first.first) in
    rw c.in_ok-vars.ensures (rw c.new-more.ensures at reads (vars_first_one _ _ _ one.0 one.1))
