use Rattle.std.proofs.lemmas.Result.{err_from_is_err_and}
use Rattle.grammar.specs.Terminals.{toks}
use Rattle.grammar.specs.Spelling.{put_unary}
use Rattle.grammar.specs.View.{unary_view}
use Rattle.token_reader.proofs.Inside.{fails_in}
use Rattle.formula_reader.proofs.InChains.{unary_here, in_sentence, sentence_read}
use Rattle.formula_reader.proofs.expressions.Reader.whole_formula.Goals as goal

pub returns-in_err-first-clause-reads : goal.returns-in_err-first-clause-reads
returns-in_err-first-clause-reads g c =
    let p = err_from_is_err_and c.from_residual.result c.from_residual.ensures.1 in
    rw (p.1, p.2) (fails_in c.args.self.now.end c.in_err-first.field-0.0 (in_sentence (toks c.args.items.now))
    c.in_err-first.ensures.reads)

pub returns-clause-reads : goal.returns-clause-reads
returns-clause-reads g c = sentence_read (toks c.args.items.now) (put_unary (unary_view c.in_ok-first.first)
    (toks c.in_ok-first.rest.now)) c.args.self.now.end c.linked.result c.in_ok-first.ensures.reads.spelled
    (c.linked.ensures.reads (unary_here (toks c.args.items.now) (unary_view c.in_ok-first.first) c.in_ok-first.closed
    (toks c.in_ok-first.rest.now) c.in_ok-first.ensures.reads))
