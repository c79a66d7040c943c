use Rattle.std.proofs.Common.{◌≡◌, ◌∷◌}
use Rattle.std.proofs.lemmas.Result.{err_from_is_err_and}
use Rattle.grammar.specs.declared.terminal.Terminal.TheVariants as t
use Rattle.grammar.specs.Terminals.{toks, sign}
use Rattle.token_reader.proofs.Binds.{number_none, number_unequal, number_other, number_last_fails}
use Rattle.token_reader.proofs.binders.number.Goals as goal

pub returns-in_default-clause-reads : goal.returns-in_default-clause-reads
returns-in_default-clause-reads c = number_none (toks c.args.items.now) c.args.end c.in_default.ensures.none

pub returns-in_default-terminal : goal.returns-in_default-terminal
returns-in_default-terminal c = record {
  reads = number_other (toks c.args.items.now) c.args.end c.in-Some.item (toks c.in-Some.rest.now)
      c.in-Some.ensures.some c.in_default-terminal.not-Word c.in_default-terminal.not-Integer
      c.in_default-terminal.not-Compare;
  shorter = tt;
}

pub returns-in-NotEqual-clause-reads : goal.returns-in-NotEqual-clause-reads
returns-in-NotEqual-clause-reads c =
    let some = c.in-Some.ensures.some in
    number_unequal (toks c.args.items.now) c.args.end c.in-Some.item.place (toks c.in-Some.rest.now)
    (rw (c.in-Compare.is, c.in-NotEqual.is) at some)

pub returns-in_err-value-in_default-sign : goal.returns-in_err-value-in_default-sign
returns-in_err-value-in_default-sign c =
    let p = err_from_is_err_and c.from_residual.result c.from_residual.ensures.1 in
    let some = c.in-Some.ensures.some in
    let is : toks c.args.items.now ≡ sign (t.Compare c.in-Compare.sign) c.in-Some.item.place ∷ toks c.in-Some.rest.now =
    rw c.in-Compare.is at some in
    record {
      reads = rw (p.1, p.2) (number_last_fails (toks c.args.items.now) (toks c.in-Some.rest.now) c.args.end
          c.in_err-value-in_default-sign.field-0.0 c.in-Compare.sign c.in-Some.item.place c.in_default-sign.not-NotEqual
          is c.in_err-value-in_default-sign.ensures.reads);
      shorter = rw p.1 tt;
    }
