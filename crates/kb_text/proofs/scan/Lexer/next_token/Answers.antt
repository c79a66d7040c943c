use Rattle.std.proofs.Common.{◌≡◌, ap, sym, ◌∙◌, arith, take, drop, Some, None}
use Rattle.kb_text.specs.Depth.{around_of, after_token}
use Rattle.kb_text.specs.Lexing.{text_of}
use Rattle.kb_text.specs.Tokens.{refusal_of}
use Rattle.kb_text.proofs.Fronts.{token_within}
use Rattle.kb_text.proofs.Splits.{over_gap, over_token, at_refused, at_stuck, at_end}
use Rattle.kb_text.proofs.scan.Lexer.next_token.Goals as goal

pub loop-start-preserved : goal.loop-start-preserved
loop-start-preserved c =
    let found = rw c.split_at.ensures.back at c.in-Gap.ensures in
    let l = c.loop-start.invariant in
    record {
      same = l.same;
      text = l.text;
      passed = λ ts before. over_gap (l.passed ts before) found.0 c.in-Gap.n found.1 found.2;
      on = omega (arith, l.on);
    }

pub split_at-requires-in-Token : goal.split_at-requires-in-Token
split_at-requires-in-Token c = token_within c.in_braces.result c.split_at.result.1.now c.in-Token.kind c.in-Token.n
    c.in-Token.ensures

pub returns-in-Some-clause-read : goal.returns-in-Some-clause-read
returns-in-Some-clause-read c =
    let rest = drop c.loop-start.start (text_of c.args.self.now) in
    let is_token = rw (c.in_braces.ensures, c.split_at.ensures.back) at c.in-Token.ensures in
    let why : refusal_of (around_of c.loop-start.self.nesting) c.in-Token.kind (take c.in-Token.n rest)
    (drop c.in-Token.n rest) ≡ Some c.in-Some.cause =
    rw (c.split_at-in-Token.ensures.front, c.split_at-in-Token.ensures.back, c.split_at.ensures.back) at
    (sym c.refusal.ensures.value ∙ c.in-Some.is) in
    λ ts before. rw c.refused.ensures
    (at_refused (c.loop-start.invariant.passed ts before) c.in-Token.kind c.in-Token.n is_token c.in-Some.cause why)

pub returns-in-Token-clause-read : goal.returns-in-Token-clause-read
returns-in-Token-clause-read c =
    let rest = drop c.loop-start.start (text_of c.args.self.now) in
    let l = c.loop-start.invariant in
    let is_token = rw (c.in_braces.ensures, c.split_at.ensures.back) at c.in-Token.ensures in
    let fits : refusal_of (around_of c.loop-start.self.nesting) c.in-Token.kind (take c.in-Token.n rest)
    (drop c.in-Token.n rest) ≡ None =
    rw (c.split_at-in-Token.ensures.front, c.split_at-in-Token.ensures.back, c.split_at.ensures.back) at
    (sym c.refusal.ensures.value ∙ c.in_default.is) in
    let text = c.split_at-in-Token.ensures.front ∙ ap (take c.in-Token.n) c.split_at.ensures.back in
    let passed : around_of c.pass.new.self ≡ after_token (around_of c.loop-start.self.nesting) c.in-Token.kind
    (take c.in-Token.n rest) = rw text at c.in_ok-pass-in-Token.ensures in
    λ ts before. rw (text, passed, l.text) (over_token (l.passed ts before) c.in-Token.kind c.in-Token.n is_token fits)

pub returns-in-Nothing-clause-read : goal.returns-in-Nothing-clause-read
returns-in-Nothing-clause-read c =
    let found = rw (c.in_braces.ensures, c.split_at.ensures.back) at c.in-Nothing.ensures in
    λ ts before. rw c.refused-in-Nothing.ensures
    (at_stuck (c.loop-start.invariant.passed ts before) c.in-Nothing.cause (omega arith) found)

pub returns-clause-read : goal.returns-clause-read
returns-clause-read c = λ ts before. at_end (c.loop-start.invariant.passed ts before) c.loop-start-test.false
