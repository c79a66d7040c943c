use Rattle.std.proofs.Common.{refl}
use Rattle.std.proofs.lemmas.Result.{err_from_is_err_and}
use Rattle.grammar.specs.Terminals.{toks}
use Rattle.formula_reader.proofs.InOperands.{nothing_only, terms_only, operand_from, truth_is, truth_unsealed}
use Rattle.formula_reader.proofs.expressions.Reader.plain.Goals as goal

pub returns-in_default-clause-reads : goal.returns-in_default-clause-reads
returns-in_default-clause-reads g c = λ plain. c.measured.ensures.reads
    (nothing_only (toks c.args.items.now) c.in_default.ensures.none)

pub returns-in_default-terminal-clause-reads : goal.returns-in_default-terminal-clause-reads
returns-in_default-terminal-clause-reads g c = λ plain. c.measured-in_default-terminal.ensures.reads
    (terms_only (toks c.args.items.now) c.in-Some.item (toks c.in-Some.rest.now) c.in-Some.ensures.some
    c.in_default-terminal.not-Word c.in_default-terminal.not-Open c.in_default-terminal.not-Every
    c.in_default-terminal.not-Some c.in_default-terminal.not-Truth plain)

pub returns-in_err-sealed-in-Truth-clause-reads : goal.returns-in_err-sealed-in-Truth-clause-reads
returns-in_err-sealed-in-Truth-clause-reads g c =
    let some = c.in-Some.ensures.some in
    let p = err_from_is_err_and c.from_residual.result c.from_residual.ensures.1 in
    rw (p.1, p.2) (λ plain. truth_unsealed c.in-Truth.value c.in-Some.item.place (toks c.args.items.now)
    (toks c.in-Some.rest.now) c.args.self.now.end c.in_err-sealed-in-Truth.field-0.0 (rw c.in-Truth.is at some)
    c.in_err-sealed-in-Truth.ensures.err)

pub returns-in_ok-found-in-Truth-clause-reads : goal.returns-in_ok-found-in-Truth-clause-reads
returns-in_ok-found-in-Truth-clause-reads g c =
    let some = c.in-Some.ensures.some in
    rw (c.in_ok-found-in-Truth.ensures, c.truth.ensures) (λ plain. (
      truth_is c.in-Truth.value c.in-Some.item.place (toks c.args.items.now) (toks c.in-Some.rest.now)
          (rw c.in-Truth.is at some) c.in_ok-sealed-in-Truth.ensures.ok,
      refl,
    ))

pub returns-in-Word-clause-reads : goal.returns-in-Word-clause-reads
returns-in-Word-clause-reads g c = λ plain. let some = c.in-Some.ensures.some in
    operand_from (toks c.args.items.now) _ c.args.self.now.end c.worded.result (rw c.in-Word.is at some)
    c.worded.ensures.reads

pub returns-in-Open-clause-reads : goal.returns-in-Open-clause-reads
returns-in-Open-clause-reads g c = λ plain. let some = c.in-Some.ensures.some in
    operand_from (toks c.args.items.now) _ c.args.self.now.end c.enclosed.result (rw c.in-Open.is at some)
    c.enclosed.ensures.reads

pub returns-in-Every-clause-reads : goal.returns-in-Every-clause-reads
returns-in-Every-clause-reads g c = λ plain. let some = c.in-Some.ensures.some in
    operand_from (toks c.args.items.now) _ c.args.self.now.end c.every.result (rw c.in-Every.is at some)
    c.every.ensures.reads

pub returns-in-Some-terminal-clause-reads : goal.returns-in-Some-terminal-clause-reads
returns-in-Some-terminal-clause-reads g c = λ plain. let some = c.in-Some.ensures.some in
    operand_from (toks c.args.items.now) _ c.args.self.now.end c.some.result (rw c.in-Some-terminal.is at some)
    c.some.ensures.reads
