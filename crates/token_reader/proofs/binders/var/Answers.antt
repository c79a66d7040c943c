use Rattle.std.proofs.Common.{◌≡◌, ◌∷◌, ◌∙◌, [], List, ap, refl}
use Rattle.std.proofs.lemmas.Result.{err_from_is_err_and}
use Rattle.grammar.specs.declared.terminal.Terminal.TheVariants as t
use Rattle.grammar.specs.Terminals.{Tok, toks, sign}
use Rattle.grammar.specs.Trees.{name, typed, var}
use Rattle.grammar.specs.Spelling.{put_name}
use Rattle.grammar.specs.View.{name_view}
use Rattle.token_reader.specs.Machine.{colon, on, run, vars_first}
use Rattle.token_reader.specs.Parts.{at_vars}
use Rattle.token_reader.specs.Binders.{binder, put_binder, Whole}
use Rattle.token_reader.proofs.Append.{name-append}
use Rattle.token_reader.proofs.Inside.{word_fails, lacks_fails}
use Rattle.token_reader.proofs.Binds.{vars_stuck, type_stuck, square_stuck, some_binder}
use Rattle.token_reader.proofs.binders.var.Goals as goal

pub returns-in_err-name-clause-reads : goal.returns-in_err-name-clause-reads
returns-in_err-name-clause-reads c =
    let p = err_from_is_err_and c.from_residual.result c.from_residual.ensures.1 in
    rw (p.1, p.2) (word_fails at_vars put_binder Whole (toks c.args.items.now) (toks c.args.items.now) c.args.end
    c.in_err-name.field-0.0 (λ (x : List Tok). x) (λ x y. refl) refl
    (λ h j σ. vars_stuck (colon ∷ σ) (toks c.args.items.now) h) (λ after. (
      some_binder,
      put_binder some_binder after,
      tt,
      refl,
    )) c.in_err-name.ensures.reads)

pub returns-in_err-of-clause-reads : goal.returns-in_err-of-clause-reads
returns-in_err-of-clause-reads c =
    let p = err_from_is_err_and c.from_residual-in_err-of.result c.from_residual-in_err-of.ensures.1 in
    let n = name_view c.in_ok-name.name in
    let us = toks c.in-Some.after.now in
    let before = λ (x : List Tok). put_name n (sign t.OpenSquare c.in-Some.start ∷ x) in
    let split : toks c.args.items.now ≡ put_name n (sign t.OpenSquare c.in-Some.start ∷ us) = c.in_ok-name.ensures.reads
    ∙ ap (λ (x : List Tok). put_name n x) c.in-Some.ensures.some in
    rw (p.1, p.2) (word_fails at_vars put_binder Whole (toks c.args.items.now) us c.args.end c.in_err-of.field-0.0
    before (λ x y. name-append n (sign t.OpenSquare c.in-Some.start ∷ x) y) split
    (λ h j σ. ap (λ (x : List Tok). run (on (vars_first ∷ colon ∷ σ)) x) split ∙ type_stuck (colon ∷ σ) us h)
    (λ after. (
      binder (var (typed n c.in-Some.start (name [] 0) 0)) 0,
      put_name (name [] 0) (sign t.CloseSquare 0 ∷ sign t.Colon 0 ∷ after),
      tt,
      refl,
    )) c.in_err-of.ensures.reads)

pub returns-in_err-close-clause-reads : goal.returns-in_err-close-clause-reads
returns-in_err-close-clause-reads c =
    let p = err_from_is_err_and c.from_residual-in_err-close.result c.from_residual-in_err-close.ensures.1 in
    let n = name_view c.in_ok-name.name in
    let m = name_view c.in_ok-of.of in
    let us = toks c.in_ok-of.after.now in
    let before = λ (x : List Tok). put_name n (sign t.OpenSquare c.in-Some.start ∷ put_name m x) in
    let split : toks c.args.items.now ≡ put_name n (sign t.OpenSquare c.in-Some.start ∷ put_name m us) =
    c.in_ok-name.ensures.reads ∙ ap (λ (x : List Tok). put_name n x) (c.in-Some.ensures.some
    ∙ ap (λ (x : List Tok). sign t.OpenSquare c.in-Some.start ∷ x) c.in_ok-of.ensures.reads) in
    rw (p.1, p.2) (lacks_fails at_vars put_binder Whole t.CloseSquare (toks c.args.items.now) us c.args.end
    c.in_err-close.field-0.0 before
    (λ x y. ap (λ (z : List Tok). put_name n (sign t.OpenSquare c.in-Some.start ∷ z)) (name-append m x y)
    ∙ name-append n (sign t.OpenSquare c.in-Some.start ∷ put_name m x) y) split
    (λ h j σ. ap (λ (x : List Tok). run (on (vars_first ∷ colon ∷ σ)) x) split ∙ square_stuck (colon ∷ σ) us h)
    (λ after. (binder (var (typed n c.in-Some.start m 0)) 0, sign t.CloseSquare 0 ∷ sign t.Colon 0 ∷ after, tt, refl))
    c.in_err-close.ensures.reads)
