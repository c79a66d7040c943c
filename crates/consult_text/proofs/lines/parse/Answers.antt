use Rattle.std.proofs.Common.{◌∙◌, List, length, ap, refl, subst}
use Rattle.kb_text.specs.declared.token.Token.{Token}
use Rattle.std.proofs.lemmas.Bool.{false≢true}
use Rattle.std.specs.Prelude.{◌==◌}
use Rattle.kb_text.specs.declared.fault.LexError.{LexError}
use Rattle.kb_text.specs.Tokens.{Fails}
use Rattle.consult_text.proofs.Parses.{one_outcome, refused_tokens, refused_blank, no_spelling, is_written, not_blank}
use Rattle.consult_text.proofs.lines.parse.Goals as goal

pub returns-in-Err-Refused : goal.returns-in-Err-Refused
returns-in-Err-Refused c =
    let one = one_outcome c.args.line.now c.one_answer.ensures in
    let fails = subst (λ (e : LexError). Fails e c.args.line.now) c.in-Err-Refused.field-0-is
    c.in-Err-Refused.ensures.outcome in
    (refl, (refused_blank c.in-Err-Refused.field-0-0 one fails, refused_tokens c.in-Err-Refused.field-0-0 one fails))

pub returns-in-Some : goal.returns-in-Some
returns-in-Some c = is_written c.in-Ok.tokens.items c.as_slice-tokens.result.now c.in_ok-command.field-0
    c.in-Some.command c.in-Ok.ensures.outcome c.in-Ok.ensures.spelled c.as_slice-tokens.ensures.value
    c.in_ok-command.ensures c.in-Some.is

pub returns : goal.returns
returns c =
    let one = one_outcome c.args.line.now c.one_answer.ensures in (
      refl,
      (
        not_blank c.in-Ok.tokens.items one c.in-Ok.ensures.outcome
            (λ none. false≢true (c.if-is_empty.ensures
            ∙ (ap (λ (xs : List Token). length xs == 0) c.as_slice-tokens.ensures.value ∙ ap (λ n. n == 0) none))),
        no_spelling c.in-Ok.tokens.items c.as_slice-tokens.result.now c.in_ok-command.field-0 one
            c.in-Ok.ensures.outcome c.as_slice-tokens.ensures.value c.in_ok-command.ensures c.in-None.is,
      ),
    )
