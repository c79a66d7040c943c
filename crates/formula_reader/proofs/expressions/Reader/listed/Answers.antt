use Rattle.std.proofs.Common.{◌∷◌, List, ap, refl}
use Rattle.std.proofs.lemmas.Result.{err_from_is_err_and}
use Rattle.grammar.specs.declared.terminal.Terminal.TheVariants as t
use Rattle.grammar.specs.Terminals.{Tok, toks, sign}
use Rattle.grammar.specs.View.{term_view}
use Rattle.token_reader.proofs.Inside.{fails_in}
use Rattle.formula_reader.proofs.InTerms.{in_arguments}
use Rattle.formula_reader.proofs.expressions.Reader.listed.Goals as goal

pub returns-in_err-first-clause-reads : goal.returns-in_err-first-clause-reads
returns-in_err-first-clause-reads g c =
    let p = err_from_is_err_and c.from_residual.result c.from_residual.ensures.1 in
    rw (p.1, p.2) (λ n s still. fails_in c.args.self.now.end c.in_err-first.field-0.0
    (in_arguments n s (sign t.Open s ∷ toks c.args.items.now) (toks c.args.items.now) refl still)
    c.in_err-first.ensures.reads)

pub returns-in_err-place-clause-reads : goal.returns-in_err-place-clause-reads
returns-in_err-place-clause-reads g c =
    let p = err_from_is_err_and c.from_residual-in_err-place.result c.from_residual-in_err-place.ensures.1 in
    let reads = c.in_err-place.ensures.reads in
    rw (p.1, p.2) (λ n s still. rw c.new-more.ensures at reads n (sign t.Open s ∷ toks c.args.items.now) s
    (term_view c.in_ok-first.first)
    (ap (λ (v : List Tok). sign t.Open s ∷ v) c.in_ok-first.ensures.reads.spelled) c.in_ok-first.ensures.reads.fine)

pub returns-clause-reads : goal.returns-clause-reads
returns-clause-reads g c =
    let reads = c.in_ok-place.ensures.reads in
    rw (c.terms.ensures, c.into_inner.ensures) (λ n s still. rw c.new-more.ensures at reads n
    (sign t.Open s ∷ toks c.args.items.now) s (term_view c.in_ok-first.first)
    (ap (λ (v : List Tok). sign t.Open s ∷ v) c.in_ok-first.ensures.reads.spelled) c.in_ok-first.ensures.reads.fine)
