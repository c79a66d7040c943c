use Rattle.std.proofs.Common.{refl}
use Rattle.std.proofs.lemmas.Result.{err_from_is_err_and}
use Rattle.grammar.specs.Terminals.{toks}
use Rattle.grammar.specs.View.{term_view}
use Rattle.token_reader.proofs.Inside.{fails_in}
use Rattle.formula_reader.proofs.InOperands.{no_compare_ends, in_right, comparison_is}
use Rattle.formula_reader.proofs.expressions.Reader.compared.Goals as goal

pub returns-in_default-clause-reads : goal.returns-in_default-clause-reads
returns-in_default-clause-reads g c =
    let ends = no_compare_ends (toks c.args.items.now) c.requires.ends c.in_default.ensures.none in
    λ alone. (record { spelled = refl; fine = c.requires.fine; ends = c.requires.ends }, ends, alone ends)

pub returns-in_err-right-clause-reads : goal.returns-in_err-right-clause-reads
returns-in_err-right-clause-reads g c =
    let p = err_from_is_err_and c.from_residual.result c.from_residual.ensures.1 in
    rw (p.1, p.2) (λ alone. fails_in c.args.self.now.end c.in_err-right.field-0.0
    (in_right (term_view c.args.term) c.in-Some.sign c.in-Some.place (toks c.args.items.now)
    (toks c.in-Some.rest.now) c.in-Some.ensures.some c.requires.fine) c.in_err-right.ensures.reads)

pub returns-clause-reads : goal.returns-clause-reads
returns-clause-reads g c =
    rw (c.in_ok-found.ensures, c.compare.ensures) (λ alone. (
      comparison_is (term_view c.args.term) c.in-Some.sign
          c.in-Some.place (term_view c.in_ok-right.right) (toks c.args.items.now) (toks c.in-Some.rest.now)
          (toks c.in_ok-right.last.now) c.in-Some.ensures.some c.requires.fine c.in_ok-right.ensures.reads,
      refl,
    ))
