use Rattle.std.proofs.lemmas.Result.{err_from_is_err_and}
use Rattle.grammar.specs.Terminals.{toks}
use Rattle.grammar.specs.Spelling.{put_factor, put_term}
use Rattle.grammar.specs.View.{factor_view, term_view}
use Rattle.token_reader.proofs.Inside.{fails_in}
use Rattle.formula_reader.proofs.InOperands.{in_left, not_app, operand_from}
use Rattle.formula_reader.proofs.expressions.Reader.begun.Goals as goal

pub returns-in_err-term-clause-reads : goal.returns-in_err-term-clause-reads
returns-in_err-term-clause-reads g c =
    let p = err_from_is_err_and c.from_residual.result c.from_residual.ensures.1 in
    rw (p.1, p.2) (λ alone. fails_in c.args.self.now.end c.in_err-term.field-0.0
    (in_left (put_factor (factor_view c.args.first) (toks c.args.items.now))) c.in_err-term.ensures.reads)

pub returns-clause-reads : goal.returns-clause-reads
returns-clause-reads g c = λ alone.
    let found = c.in_ok-term.ensures.reads in
    operand_from (put_factor (factor_view c.args.first) (toks c.args.items.now))
    (put_term (term_view c.in_ok-term.term) (toks c.in_ok-term.rest.now)) c.args.self.now.end c.compared.result
    c.in_ok-term.ensures.reads.spelled
    (c.compared.ensures.reads (not_app (factor_view c.args.first) (term_view c.in_ok-term.term) (toks c.args.items.now)
    (toks c.in_ok-term.rest.now) c.requires.fine found.fine c.requires.ends found.ends found.spelled alone))
