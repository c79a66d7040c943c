use Rattle.std.proofs.Common.{◌∷◌, ◌∙◌, ap, arith, List}
use Rattle.std.proofs.lemmas.Result.{err_from_is_err_and}
use Rattle.std.proofs.lemmas.List.{map_push}
use Rattle.grammar.specs.declared.terminal.Terminal.TheVariants as t
use Rattle.grammar.specs.Terminals.{Tok, toks, sign}
use Rattle.block_reader.proofs.Formats.{each_step}
use Rattle.fo_reader.proofs.TheoryFormats.{binding_format}
use Rattle.fo_reader.proofs.InTheory.{in_bindings}
use Rattle.fo_reader.proofs.theory.bindings.Goals as goal

pub returns-in_err-vars-clause-reads : goal.returns-in_err-vars-clause-reads
returns-in_err-vars-clause-reads c =
    let p = err_from_is_err_and c.from_residual.result c.from_residual.ensures.1 in
    let l = c.loop-place.invariant in
    rw (p.1, p.2) (in_bindings _ c.in-Some.place (toks c.args.items.now) (toks c.loop-place.rest.now)
    (toks c.in-Some.behind.now) c.args.end c.in_err-vars.field-0.0 l.so_far c.in-Some.ensures.some
    c.in_err-vars.ensures.reads)

pub loop-place-preserved : goal.loop-place-preserved
loop-place-preserved c =
    let l = c.loop-place.invariant in
    record {
      shorter = omega (arith, c.in_ok-vars.ensures.shorter, c.in-Some.ensures.shorter, l.shorter);
      so_far = rw (c.in_ok-push.ensures.ok, map_push) (each_step binding_format _ _ _ _ _ l.so_far
          (c.in-Some.ensures.some ∙ ap (λ (x : List Tok). sign t.Every c.in-Some.place ∷ x)
          c.in_ok-vars.ensures.reads));
    }
