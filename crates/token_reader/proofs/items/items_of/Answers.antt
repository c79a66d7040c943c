use Rattle.std.proofs.Common.{◌∷◌, ◌++◌, [], ◌∙◌, refl}
use Rattle.std.proofs.lemmas.List.{map_push}
use Rattle.std.proofs.lemmas.Result.{err_from_is_err_and}
use Rattle.kb_text.specs.Tokens.{lexeme_of}
use Rattle.token_reader.proofs.items.items_of.Goals as goal

pub loop-lexer-init : goal.loop-lexer-init
loop-lexer-init c = ([], c.new-lexer.ensures.text, c.new-lexer.ensures.none, rw c.new-found.ensures.items refl)

pub returns-in_err-token-clause-err : goal.returns-in_err-token-clause-err
returns-in_err-token-clause-err c =
    let p = err_from_is_err_and c.from_residual.result c.from_residual.ensures.1 in
    let l = c.loop-lexer.invariant in
    rw (p.1, p.2) (rw l.1 at (c.in_err-token.ensures.read l.0 l.2))

pub loop-lexer-preserved : goal.loop-lexer-preserved
loop-lexer-preserved c =
    let l = c.loop-lexer.invariant in (
      l.0 ++ lexeme_of c.in-Some.token ∷ [],
      c.in_ok-token.ensures.text ∙ l.1,
      rw c.in-Some.is at (c.in_ok-token.ensures.read l.0 l.2),
      rw (c.in_ok-push.ensures.items, map_push, l.3, c.item.ensures, map_push) refl,
    )

pub returns-clause-ok : goal.returns-clause-ok
returns-clause-ok c =
    let l = c.loop-lexer.invariant in
    record { lexemes = l.0; scanned = rw l.1 at (rw c.in_default.is at (c.in_ok-token.ensures.read l.0 l.2)); same = l.3 }
