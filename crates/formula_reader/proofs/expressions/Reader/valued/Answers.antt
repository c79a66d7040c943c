use Rattle.std.proofs.Common.{◌≡◌, ◌∷◌, ap, sym}
use Rattle.std.proofs.lemmas.Result.{err_from_is_err_and}
use Rattle.grammar.specs.Terminals.{toks, tok_at, word}
use Rattle.grammar.specs.Trees.{Name}
use Rattle.grammar.specs.Spelling.{put_name}
use Rattle.grammar.specs.View.{name_view}
use Rattle.token_reader.proofs.Inside.{fails_in}
use Rattle.formula_reader.proofs.InFactors.{in_value}
use Rattle.formula_reader.proofs.expressions.Reader.valued.Goals as goal

pub returns-in_err-app-clause-reads : goal.returns-in_err-app-clause-reads
returns-in_err-app-clause-reads g c =
    let p = err_from_is_err_and c.from_residual-in_err-app.result c.from_residual-in_err-app.ensures.1 in
    let same : tok_at (word c.args.text.now) c.args.place ∷ toks c.args.items.now
    ≡ put_name (name_view c.in_ok-name.name) (toks c.args.items.now) =
    sym (ap (λ (n : Name). put_name n (toks c.args.items.now)) c.in_ok-name.ensures) in
    rw (p.1, p.2) (fails_in c.args.self.now.end c.in_err-app.field-0.0 (in_value _ _ same) c.in_err-app.ensures.reads)
