use Rattle.std.proofs.Common.{◌∷◌, ◌∙◌, ap, arith, List}
use Rattle.std.proofs.lemmas.Result.{err_from_is_err_and}
use Rattle.std.proofs.lemmas.List.{map_push}
use Rattle.grammar.specs.Terminals.{Tok, toks, sign}
use Rattle.grammar.specs.BlockSpelling.{separator}
use Rattle.block_reader.proofs.Formats.{each_step}
use Rattle.block_reader.proofs.BlockFormats.{separated_format}
use Rattle.block_reader.proofs.InVocabulary.{separated_in, separated_ends}
use Rattle.block_reader.proofs.vocabulary.element_tails.Goals as goal

pub returns-in_err-name-clause-reads : goal.returns-in_err-name-clause-reads
returns-in_err-name-clause-reads c =
    let p = err_from_is_err_and c.from_residual.result c.from_residual.ensures.1 in
    let l = c.loop-sign.invariant in
    rw (p.1, p.2) (separated_in _ c.in-Some.sign c.in-Some.place (toks c.args.items.now) (toks c.loop-sign.rest.now)
    (toks c.in-Some.behind.now) c.args.end c.in_err-name.field-0.0 l.so_far c.in-Some.ensures.some
    c.in_err-name.ensures.reads)

pub loop-sign-preserved : goal.loop-sign-preserved
loop-sign-preserved c =
    let l = c.loop-sign.invariant in
    record {
      shorter = omega (arith, c.in_ok-name.ensures.shorter, c.in-Some.ensures.shorter, l.shorter);
      so_far = rw (c.in_ok-push.ensures.ok, map_push) (each_step separated_format _ _ _ _ _ l.so_far
          (c.in-Some.ensures.some ∙ ap (λ (x : List Tok). sign (separator c.in-Some.sign) c.in-Some.place ∷ x)
          c.in_ok-name.ensures.reads));
    }

pub returns-in_err-_close-clause-reads : goal.returns-in_err-_close-clause-reads
returns-in_err-_close-clause-reads c =
    let p = err_from_is_err_and c.from_residual-in_err-_close.result c.from_residual-in_err-_close.ensures.1 in
    let l = c.loop-sign.invariant in
    rw (p.1, p.2) (separated_ends _ (toks c.args.items.now) (toks c.loop-sign.rest.now) c.args.end
    c.in_err-_close.field-0.0 l.so_far c.in_default.ensures.none c.in_err-_close.ensures.reads)
