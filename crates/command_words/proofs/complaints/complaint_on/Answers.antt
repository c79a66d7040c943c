use Rattle.std.proofs.Common.{◌≡◌, ◌∙◌, sym, ap, subst, inl, inr, map, option_map}
use Rattle.std.proofs.lemmas.Result.{IfOk-weaker}
use Rattle.std.specs.String.{string_bytes}
use Rattle.clap.specs.Words.{App, fault_of, subcommand_of, subcommand_name_of, is_simple, is_simple_and_free, kind_of}
use Rattle.clap.specs.Words.{IsAmong}
use Rattle.clap.specs.declared.error.kind.ErrorKind.{ErrorKind}
use Rattle.clap.specs.declared.parser.matches.ArgMatches.TheViews.{out-ArgMatches}
use Rattle.command_words.specs.Complaints.{Fits, FitsName, name_said}
use Rattle.command_words.proofs.Fitting.{fits_no_memory}
use Rattle.command_words.proofs.Said.{is_exact, has_matches, name_of_rows}
use Rattle.command_words.proofs.complaints.complaint_on.Goals as goal

pub returns-in-Ok : goal.returns-in-Ok
returns-in-Ok c =
    let words = map string_bytes c.args.words.now in
    let line_is = c.in_ok-command_line.ensures.0 in
    let none = ap (λ (a : App). fault_of a words) (sym line_is)
    ∙ c.in-Ok.ensures.kinds (ap is_simple_and_free line_is ∙ is_exact) in
    let rows = (c.in-Ok.ensures.matches (ap is_simple line_is ∙ has_matches)).1
    ∙ ap (λ (a : App). subcommand_of a words) line_is in
    let name : subcommand_name_of c.in-Ok.matches ≡ name_said words =
    sym (name_of_rows (out-ArgMatches c.in-Ok.matches).subcommand) ∙ ap (option_map (λ p. p.0)) rows in
    inl (none, subst (FitsName c.complaint_on_values.result) name c.complaint_on_values.ensures)

pub returns-in-Err : goal.returns-in-Err
returns-in-Err c =
    let words = map string_bytes c.args.words.now in
    let line_is = c.in_ok-command_line.ensures.0 in
    IfOk-weaker c.complaint_of.result _ _ (λ complaint fits.
    elim (c.in-Err.ensures.kinds (ap is_simple_and_free line_is ∙ is_exact)) [
      | inl memory ↦ absurd (fits_no_memory complaint (subst (λ (k : ErrorKind). Fits complaint k) memory fits))
      | inr among ↦ inr (
        kind_of c.in-Err.error,
        subst (λ (a : App). IsAmong (kind_of c.in-Err.error) (fault_of a words)) line_is among,
        fits,
      )
    ]) c.complaint_of.ensures
