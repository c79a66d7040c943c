use Rattle.std.proofs.Common.{◌∙◌, List, refl, ap}
use Rattle.std.proofs.lemmas.Result.{err_from_is_err_and}
use Rattle.grammar.specs.Terminals.{Tok, toks}
use Rattle.grammar.specs.Spelling.{put_term}
use Rattle.grammar.specs.View.{term_view}
use Rattle.formula_reader.proofs.Unread.{term_fails, term_over}
use Rattle.formula_reader.proofs.whole.only_term.Goals as goal

pub returns-in_err-found : goal.returns-in_err-found
returns-in_err-found c =
    let p = err_from_is_err_and c.from_residual.result c.from_residual.ensures.1 in
    rw (p.1, p.2) (term_fails term_view (toks c.args.items.now) c.args.end c.in_err-found.field-0.0
    c.in_err-found.ensures.reads)

pub returns-in_default : goal.returns-in_default
returns-in_default c =
    let read = c.in_ok-found.ensures.reads in
    rw c.into_inner.ensures (
      read.spelled ∙ ap (λ (v : List Tok). put_term (term_view c.in_ok-found.found) v)
          c.in_default.ensures.none,
      read.fine,
    )

pub returns : goal.returns
returns c = rw c.from.ensures (term_over (toks c.args.items.now) (term_view c.in_ok-found.found) _ _ _
    (toks c.in_ok-found.rest.now) c.args.end _ c.in_ok-found.ensures.reads c.in-Some.ensures.some refl)
