use Rattle.std.proofs.Common.{◌∷◌}
use Rattle.std.proofs.lemmas.Result.{err_from_is_err_and}
use Rattle.grammar.specs.declared.terminal.Terminal.TheVariants as t
use Rattle.grammar.specs.Terminals.{toks, sign}
use Rattle.grammar.specs.Trees.{brackets}
use Rattle.grammar.specs.Spelling.{put_factor}
use Rattle.grammar.specs.View.{formula_view, term_view, app_view}
use Rattle.formula_reader.proofs.InOperands.{group_is, brackets_put, wraps_put, operand_from}
use Rattle.formula_reader.proofs.expressions.Reader.enclosed.Goals as goal

pub returns-in_err-inner-clause-reads : goal.returns-in_err-inner-clause-reads
returns-in_err-inner-clause-reads g c =
    let p = err_from_is_err_and c.from_residual.result c.from_residual.ensures.1 in
    rw (p.1, p.2) (c.in_err-inner.ensures.reads c.args.begin)

pub returns-in_ok-found-in-Formula-clause-reads : goal.returns-in_ok-found-in-Formula-clause-reads
returns-in_ok-found-in-Formula-clause-reads g c =
    let read = c.in_ok-inner.ensures.reads in
    let content = read.1 in
    let found = rw c.in-Formula.is at content in
    rw (c.in_ok-found-in-Formula.ensures, c.group.ensures) (
      group_is c.args.begin c.in_ok-inner.place
          (formula_view c.in-Formula.formula) (toks c.args.items.now) read.0 (toks c.in_ok-inner.last.now)
          found.0 found.1
          read.2 read.3,
      found.1,
    )

pub returns-in_ok-first-in-Term-clause-reads : goal.returns-in_ok-first-in-Term-clause-reads
returns-in_ok-first-in-Term-clause-reads g c =
    let read = c.in_ok-inner.ensures.reads in
    let content = read.1 in
    let found = rw c.in-Term.is at content in
    let after = c.begun.ensures.reads (rw c.in_ok-first-in-Term.ensures (λ h. found.2)) in
    operand_from (sign t.Open c.args.begin ∷ toks c.args.items.now)
    (put_factor (brackets c.args.begin (term_view c.in-Term.term) c.in_ok-inner.place)
    (toks c.in_ok-inner.last.now)) c.args.self.now.end c.begun.result
    (brackets_put c.args.begin c.in_ok-inner.place (term_view c.in-Term.term) (toks c.args.items.now) read.0
    (toks c.in_ok-inner.last.now) found.0.spelled read.2) (rw c.in_ok-first-in-Term.ensures at after)

pub returns-in_ok-push-in-Either-clause-reads : goal.returns-in_ok-push-in-Either-clause-reads
returns-in_ok-push-in-Either-clause-reads g c =
    let read = c.in_ok-inner.ensures.reads in
    let content = read.1 in
    let found = rw c.in-Either.is at content in
    let after = c.applied.ensures.reads in
    operand_from (sign t.Open c.args.begin ∷ toks c.args.items.now) _ c.args.self.now.end c.applied.result
    (wraps_put (record { start = c.args.begin; close = c.in_ok-inner.place }) c.in-Either.pairs
    (app_view c.in-Either.app) (toks c.args.items.now) read.0 (toks c.in_ok-inner.last.now) found.0.spelled read.2)
    (rw c.in_ok-push-in-Either.ensures.ok at after)
