use Rattle.std.proofs.lemmas.Result.{err_from_is_err_and}
use Rattle.grammar.specs.Terminals.{toks}
use Rattle.grammar.specs.View.{app_view, term_view}
use Rattle.fo_reader.proofs.InTheory.{head_first, head_alone, in_head_value, behind_head_value}
use Rattle.fo_reader.proofs.theory.head.Goals as goal

pub returns-in_err-app-clause-reads : goal.returns-in_err-app-clause-reads
returns-in_err-app-clause-reads c =
    let p = err_from_is_err_and c.from_residual.result c.from_residual.ensures.1 in
    rw (p.1, p.2) (head_first (toks c.args.items.now) c.args.end c.in_err-app.field-0.0 c.in_err-app.ensures.reads)

pub returns-in_err-head_ends-clause-reads : goal.returns-in_err-head_ends-clause-reads
returns-in_err-head_ends-clause-reads c =
    let p = err_from_is_err_and c.from_residual-in_err-head_ends.result c.from_residual-in_err-head_ends.ensures.1 in
    rw (p.1, p.2) (head_alone (app_view c.in_ok-app.app) (toks c.args.items.now) (toks c.in_ok-app.rest.now) c.args.end
    c.in_err-head_ends.field-0.0 c.in_ok-app.ensures.reads.1 c.in_ok-app.ensures.reads.0 c.in_ok-app.ensures.reads.2
    c.in_default.ensures.none c.in_err-head_ends.ensures)

pub returns-in_err-value-clause-reads : goal.returns-in_err-value-clause-reads
returns-in_err-value-clause-reads c =
    let p = err_from_is_err_and c.from_residual-in_err-value.result c.from_residual-in_err-value.ensures.1 in
    rw (p.1, p.2) (in_head_value (app_view c.in_ok-app.app) c.in-Some.place (toks c.args.items.now)
    (toks c.in_ok-app.rest.now) (toks c.in-Some.behind.now) c.args.end c.in_err-value.field-0.0
    c.in_ok-app.ensures.reads.1 c.in_ok-app.ensures.reads.0 c.in_ok-app.ensures.reads.2 c.in-Some.ensures.some
    c.in_err-value.ensures.reads)

pub returns-in_err-head_ends-2-clause-reads : goal.returns-in_err-head_ends-2-clause-reads
returns-in_err-head_ends-2-clause-reads c =
    let p = err_from_is_err_and c.from_residual-in_err-head_ends-2.result
    c.from_residual-in_err-head_ends-2.ensures.1 in
    rw (p.1, p.2) (behind_head_value (app_view c.in_ok-app.app) c.in-Some.place (term_view c.in_ok-value.value)
    (toks c.args.items.now) (toks c.in_ok-app.rest.now) (toks c.in-Some.behind.now) (toks c.in_ok-value.last.now)
    c.args.end c.in_err-head_ends-2.field-0.0 c.in_ok-app.ensures.reads.1 c.in_ok-app.ensures.reads.0
    c.in_ok-app.ensures.reads.2 c.in-Some.ensures.some c.in_ok-value.ensures.reads.1 c.in_ok-value.ensures.reads.0
    c.in_ok-value.ensures.reads.2 c.in_err-head_ends-2.ensures)
