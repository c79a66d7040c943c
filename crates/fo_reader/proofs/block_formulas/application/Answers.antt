use Rattle.std.proofs.lemmas.Result.{err_from_is_err_and}
use Rattle.grammar.specs.Terminals.{toks}
use Rattle.grammar.specs.Spelling.{put_name}
use Rattle.grammar.specs.View.{name_view, app_view}
use Rattle.fo_reader.proofs.FormulaFormats.{ended_app}
use Rattle.formula_reader.proofs.InOperands.{arguments_from}
use Rattle.fo_reader.proofs.Beyond.{app_fails, app_unsealed}
use Rattle.fo_reader.proofs.InTheory.{no_application}
use Rattle.fo_reader.proofs.block_formulas.application.Goals as goal

pub returns-in_err-name-clause-reads : goal.returns-in_err-name-clause-reads
returns-in_err-name-clause-reads c =
    let p = err_from_is_err_and c.from_residual.result c.from_residual.ensures.1 in
    rw (p.1, p.2) (no_application (toks c.args.items.now) c.args.end c.in_err-name.field-0.0
    c.in_err-name.ensures.reads)

pub returns-in_err-app-clause-reads : goal.returns-in_err-app-clause-reads
returns-in_err-app-clause-reads c =
    let p = err_from_is_err_and c.from_residual-in_err-app.result c.from_residual-in_err-app.ensures.1 in
    rw (p.1, p.2) (app_fails (toks c.args.items.now) (put_name (name_view c.in_ok-name.name)
    (toks c.in_ok-name.rest.now)) c.args.end c.in_err-app.field-0.0 c.in_ok-name.ensures.reads
    c.in_err-app.ensures.reads)

pub returns-in_err-sealed-clause-reads : goal.returns-in_err-sealed-clause-reads
returns-in_err-sealed-clause-reads c =
    let p = err_from_is_err_and c.from_residual-in_err-sealed.result c.from_residual-in_err-sealed.ensures.1 in
    rw (p.1, p.2) (app_unsealed (app_view c.in_ok-app.app) (toks c.args.items.now) (toks c.in_ok-app.last.now)
    c.args.end c.in_err-sealed.field-0.0 (arguments_from _ (put_name (name_view c.in_ok-name.name)
    (toks c.in_ok-name.rest.now)) _ _ c.in_ok-name.ensures.reads c.in_ok-app.ensures.reads)
    c.in_err-sealed.ensures.err)

pub returns-clause-reads : goal.returns-clause-reads
returns-clause-reads c =
    let found = arguments_from (toks c.args.items.now) (put_name (name_view c.in_ok-name.name)
    (toks c.in_ok-name.rest.now)) (app_view c.in_ok-app.app) (toks c.in_ok-app.last.now) c.in_ok-name.ensures.reads
    c.in_ok-app.ensures.reads in
    rw c.into_inner.ensures (found.spelled, found.fine, ended_app (toks c.in_ok-app.last.now) c.in_ok-sealed.ensures.ok)
