use Rattle.std.proofs.Common.{◌∷◌, ◌∙◌, ap, arith, List}
use Rattle.std.proofs.lemmas.Result.{err_from_is_err_and}
use Rattle.std.proofs.lemmas.List.{map_push}
use Rattle.grammar.specs.declared.terminal.Terminal.TheVariants as t
use Rattle.grammar.specs.Terminals.{Tok, toks, sign}
use Rattle.block_reader.proofs.Formats.{each_step}
use Rattle.block_reader.proofs.Plain.{behind}
use Rattle.block_reader.proofs.RowFormats.{item_format}
use Rattle.block_reader.proofs.InStructure.{in_item_tails, items_end}
use Rattle.block_reader.proofs.structure.item_tails.Goals as goal

pub returns-in_err-item-clause-reads : goal.returns-in_err-item-clause-reads
returns-in_err-item-clause-reads c =
    let p = err_from_is_err_and c.from_residual.result c.from_residual.ensures.1 in
    let l = c.loop-place.invariant in
    rw (p.1, p.2) (in_item_tails _ c.in-Some.place (toks c.args.items.now) (toks c.loop-place.rest.now)
    (toks c.in-Some.behind.now) c.args.end c.in_err-item.field-0.0 l.so_far l.may c.in-Some.ensures.some
    c.in_err-item.ensures.reads)

pub loop-place-preserved : goal.loop-place-preserved
loop-place-preserved c =
    let l = c.loop-place.invariant in
    record {
      shorter = omega (arith, c.in_ok-item.ensures.shorter, c.in-Some.ensures.shorter, l.shorter);
      so_far = rw (c.in_ok-push.ensures, map_push) (each_step (behind t.Comma item_format) _ _ _ _ _ l.so_far
          (c.in-Some.ensures.some ∙ ap (λ (x : List Tok). sign t.Comma c.in-Some.place ∷ x)
          c.in_ok-item.ensures.reads.0));
      may = c.in_ok-item.ensures.reads.2;
    }

pub returns-clause-reads : goal.returns-clause-reads
returns-clause-reads c =
    let l = c.loop-place.invariant in
    (l.so_far, tt, items_end _ l.may c.in_default.ensures.none)
