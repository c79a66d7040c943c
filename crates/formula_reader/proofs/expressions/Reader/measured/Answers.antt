use Rattle.std.proofs.lemmas.Result.{err_from_is_err_and}
use Rattle.grammar.specs.Terminals.{toks}
use Rattle.grammar.specs.Spelling.{put_factor}
use Rattle.grammar.specs.View.{factor_view}
use Rattle.token_reader.proofs.Inside.{fails_in}
use Rattle.formula_reader.proofs.InOperands.{in_measured, measured_app, operand_from}
use Rattle.formula_reader.proofs.expressions.Reader.measured.Goals as goal

pub returns-in_err-first-clause-reads : goal.returns-in_err-first-clause-reads
returns-in_err-first-clause-reads g c =
    let p = err_from_is_err_and c.from_residual.result c.from_residual.ensures.1 in
    rw (p.1, p.2) (λ only. fails_in c.args.self.now.end c.in_err-first.field-0.0
    (in_measured (toks c.args.items.now) only) c.in_err-first.ensures.reads)

pub returns-clause-reads : goal.returns-clause-reads
returns-clause-reads g c = λ only. operand_from (toks c.args.items.now) (put_factor (factor_view c.in_ok-first.first)
    (toks c.in_ok-first.rest.now)) c.args.self.now.end c.begun.result c.in_ok-first.ensures.reads.spelled
    (c.begun.ensures.reads (λ h. measured_app (factor_view c.in_ok-first.first) (toks c.args.items.now)
    (toks c.in_ok-first.rest.now) only c.in_ok-first.ensures.reads.spelled))
