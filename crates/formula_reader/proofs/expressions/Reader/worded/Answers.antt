use Rattle.std.proofs.Common.{◌∷◌, ◌∙◌, []}
use Rattle.std.proofs.lemmas.Result.{err_from_is_err_and}
use Rattle.grammar.specs.Terminals.{toks, tok_at, word}
use Rattle.grammar.specs.Trees.{atom}
use Rattle.grammar.specs.Spelling.{put_name, put_prim}
use Rattle.grammar.specs.View.{name_view, app_view}
use Rattle.formula_reader.specs.Results.{wrap_prim}
use Rattle.token_reader.proofs.Inside.{fails_in}
use Rattle.formula_reader.proofs.InOperands.{in_word, word_is, arguments_from, app_unsealed, operand_from}
use Rattle.formula_reader.proofs.expressions.Reader.worded.Goals as goal

pub returns-in_err-app-clause-reads : goal.returns-in_err-app-clause-reads
returns-in_err-app-clause-reads g c =
    let p = err_from_is_err_and c.from_residual-in_err-app.result c.from_residual-in_err-app.ensures.1 in
    rw (p.1, p.2) (fails_in c.args.self.now.end c.in_err-app.field-0.0
    (in_word (tok_at (word c.args.text.now) c.args.place ∷ toks c.args.items.now)
    (put_name (name_view c.in_ok-name.name) (toks c.args.items.now))
    (word_is (name_view c.in_ok-name.name) c.args.text.now c.args.place (toks c.args.items.now)
    c.in_ok-name.ensures)) c.in_err-app.ensures.reads)

pub returns-in_err-sealed-clause-reads : goal.returns-in_err-sealed-clause-reads
returns-in_err-sealed-clause-reads g c =
    let p = err_from_is_err_and c.from_residual-in_err-sealed.result c.from_residual-in_err-sealed.ensures.1 in
    rw (p.1, p.2) (app_unsealed (app_view c.in_ok-app.app) (tok_at (word c.args.text.now) c.args.place
    ∷ toks c.args.items.now) (toks c.in_ok-app.rest.now) c.args.self.now.end c.in_err-sealed.field-0.0
    (arguments_from _ (put_name (name_view c.in_ok-name.name) (toks c.args.items.now)) _ _
    (word_is (name_view c.in_ok-name.name) c.args.text.now c.args.place (toks c.args.items.now)
    c.in_ok-name.ensures) c.in_ok-app.ensures.reads) c.in_err-sealed.ensures.err)

pub returns-clause-reads : goal.returns-clause-reads
returns-clause-reads g c =
    let read = c.applied.ensures.reads in
    operand_from (tok_at (word c.args.text.now) c.args.place ∷ toks c.args.items.now)
    (put_prim (wrap_prim [] (atom (app_view c.in_ok-app.app))) (toks c.in_ok-app.rest.now)) c.args.self.now.end
    c.applied.result
    (word_is (name_view c.in_ok-name.name) c.args.text.now c.args.place (toks c.args.items.now) c.in_ok-name.ensures
    ∙ c.in_ok-app.ensures.reads.spelled) (rw c.new.ensures at read)
