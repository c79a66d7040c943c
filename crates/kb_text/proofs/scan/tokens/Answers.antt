use Rattle.std.proofs.Common.{◌∙◌, Ok}
use Rattle.std.proofs.lemmas.List.{map_push}
use Rattle.std.proofs.lemmas.Result.{err_from_is_err_and}
use Rattle.kb_text.specs.Depth.{outermost}
use Rattle.kb_text.specs.Tokens.{lexemes, TokensFrom}
use Rattle.kb_text.proofs.Spans.{shallow_from, spans_from, spelled_from}
use Rattle.kb_text.proofs.scan.tokens.Goals as goal

pub returns-in_err-token-clause-outcome : goal.returns-in_err-token-clause-outcome
returns-in_err-token-clause-outcome c =
    let p = err_from_is_err_and c.from_residual.result c.from_residual.ensures.1 in
    let l = c.loop-lexer.invariant in
    rw (p.1, p.2) (rw l.text at (c.in_err-token.ensures.read (lexemes c.loop-lexer.out.items) l.passed))

pub loop-lexer-preserved : goal.loop-lexer-preserved
loop-lexer-preserved c =
    let l = c.loop-lexer.invariant in
    record {
      text = c.in_ok-token.ensures.text ∙ l.text;
      passed = rw (c.in_ok-push.ensures.items, map_push)
          (rw c.in-Some.is at (c.in_ok-token.ensures.read (lexemes c.loop-lexer.out.items) l.passed));
    }

module _ (c : goal.After-drop-lexer-2) where
  all_read : TokensFrom outermost 0 c.args.src.now (Ok (lexemes c.loop-lexer.out.items))
  all_read =
      let l = c.loop-lexer.invariant in
      rw l.text at (rw c.in_default.is at (c.in_ok-token.ensures.read (lexemes c.loop-lexer.out.items) l.passed))

pub returns-clause-outcome : goal.returns-clause-outcome
returns-clause-outcome c = all_read c

pub returns-clause-spans : goal.returns-clause-spans
returns-clause-spans c = spans_from c.args.src.now (all_read c)

pub returns-clause-spelled : goal.returns-clause-spelled
returns-clause-spelled c = spelled_from (all_read c)

pub returns-clause-shallow : goal.returns-clause-shallow
returns-clause-shallow c = shallow_from (all_read c)
