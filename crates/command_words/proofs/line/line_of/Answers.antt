use Rattle.std.proofs.Common.{◌∙◌, sym, ap, inl, inr, map}
use Rattle.std.specs.String.{string_bytes}
use Rattle.clap.specs.Words.{App, fault_of, subcommand_of, is_simple, is_simple_and_free, rows_of, found_of}
use Rattle.command_words.proofs.Said.{is_exact, has_matches, said_of, nothing_said, met_of}
use Rattle.command_words.proofs.line.line_of.Goals as goal

pub returns-in-Some : goal.returns-in-Some
returns-in-Some c =
    let line_is = c.in_ok-command_line.ensures.0 in
    let none = ap (λ (a : App). fault_of a (map string_bytes c.args.words.now)) (sym line_is)
    ∙ c.in-Ok.ensures.kinds (ap is_simple_and_free line_is ∙ is_exact) in
    let found = (c.in-Ok.ensures.matches (ap is_simple line_is ∙ has_matches)).1
    ∙ ap (λ (a : App). subcommand_of a (map string_bytes c.args.words.now)) line_is in
    let met = met_of _ c.in-Some.command.now (rows_of (found_of c.in-Some.inner.now)) c.in-Some.ensures.name
    c.in-Some.ensures.rows in
    c.line_in.ensures ∙ sym (said_of _ _ _ none (sym found ∙ met))

pub returns : goal.returns
returns c =
    let line_is = c.in_ok-command_line.ensures.0 in
    elim (c.in-Err.ensures.kinds (ap is_simple_and_free line_is ∙ is_exact)) [
      | inl memory ↦ absurd (c.in_default.not-OutOfMemory (c.kind.ensures ∙ memory))
      | inr among ↦ nothing_said (map string_bytes c.args.words.now) _ _
          (ap (λ (a : App). fault_of a (map string_bytes c.args.words.now)) (sym line_is)) among
    ]
