use Rattle.std.proofs.Common.{sym, ◌∙◌}
use Rattle.std.proofs.lemmas.Result.{err_from_is_err_and}
use Rattle.grammar.specs.Terminals.{toks}
use Rattle.grammar.specs.View.{unary_view}
use Rattle.token_reader.proofs.Inside.{fails_in}
use Rattle.formula_reader.proofs.InOperands.{in_nots, in_signs, nots_is, nots_no_app, operand_whole, filled}
use Rattle.formula_reader.proofs.expressions.Reader.operand.Goals as goal

pub returns-in_err-found-clause-reads : goal.returns-in_err-found-clause-reads
returns-in_err-found-clause-reads g c =
    let p = err_from_is_err_and c.from_residual-in_err-found.result c.from_residual-in_err-found.ensures.1 in
    let spelled = c.in_ok-rest.ensures.reads in
    rw (p.1, p.2) (fails_in c.args.self.now.end c.in_err-found.field-0.0
    (in_nots c.tildes.new.signs (toks c.args.items.now) (toks c.in_ok-rest.rest.now)
    (rw c.new-signs.ensures at spelled))
    (c.in_err-found.ensures.reads c.in_ok-rest.ensures.ends))

pub returns-then-is_empty-clause-reads : goal.returns-then-is_empty-clause-reads
returns-then-is_empty-clause-reads g c =
    let spelled = c.in_ok-rest.ensures.reads in
    operand_whole (toks c.args.items.now) (toks c.in_ok-rest.rest.now) c.tildes.new.signs c.in_ok-found.found
    (toks c.in_ok-found.last.now) (c.is_empty.ensures.0 c.if-is_empty.true)
    (rw c.new-signs.ensures at spelled) (c.in_ok-found.ensures.reads c.in_ok-rest.ensures.ends)

pub returns-in_err-inner-clause-reads : goal.returns-in_err-inner-clause-reads
returns-in_err-inner-clause-reads g c =
    let p = err_from_is_err_and c.from_residual-in_err-inner.result c.from_residual-in_err-inner.ensures.1 in
    let spelled = c.in_ok-rest.ensures.reads in
    rw (p.1, p.2) (fails_in c.args.self.now.end c.in_err-inner.field-0.0
    (in_signs c.tildes.new.signs (toks c.args.items.now) (toks c.in_ok-rest.rest.now)
    (λ h. filled (sym c.if-is_empty.false ∙ c.is_empty.ensures.1 h)) (rw c.new-signs.ensures at spelled))
    (c.in_err-inner.ensures.reads (toks c.in_ok-rest.rest.now) (c.in_ok-found.ensures.reads c.in_ok-rest.ensures.ends)))

pub returns-clause-reads : goal.returns-clause-reads
returns-clause-reads g c =
    let spelled = c.in_ok-rest.ensures.reads in
    rw c.in_ok-whole.ensures (
      nots_is c.tildes.new.signs (unary_view c.in_ok-inner.inner) c.in_ok-inner.closed (toks c.args.items.now)
          (toks c.in_ok-rest.rest.now) (toks c.in_ok-found.last.now) (rw c.new-signs.ensures at spelled)
          (c.in_ok-inner.ensures.reads (toks c.in_ok-rest.rest.now)
          (c.in_ok-found.ensures.reads c.in_ok-rest.ensures.ends)),
      nots_no_app c.tildes.new.signs (unary_view c.in_ok-inner.inner)
          (λ h. filled (sym c.if-is_empty.false ∙ c.is_empty.ensures.1 h)),
    )
