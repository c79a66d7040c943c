use Rattle.std.proofs.Common.{◌∷◌, ◌∙◌, ap, arith, List, map}
use Rattle.std.proofs.lemmas.Result.{err_from_is_err_and}
use Rattle.std.proofs.lemmas.List.{map_push}
use Rattle.grammar.specs.declared.terminal.Terminal.TheVariants as t
use Rattle.grammar.specs.declared.terminal.Outer.TheVariants as o
use Rattle.grammar.specs.Terminals.{Tok, toks, sign}
use Rattle.grammar.specs.BlockSpelling.{put_each, put_behind, put_row}
use Rattle.grammar.specs.BlockView.{row_tail_view}
use Rattle.block_reader.proofs.Formats.{each_step}
use Rattle.block_reader.proofs.Plain.{behind}
use Rattle.block_reader.proofs.RowFormats.{row_format}
use Rattle.block_reader.proofs.InStructure.{in_row_tails, rows_end}
use Rattle.block_reader.proofs.structure.row_tails.Goals as goal

pub returns-in_err-row-clause-reads : goal.returns-in_err-row-clause-reads
returns-in_err-row-clause-reads c =
    let p = err_from_is_err_and c.from_residual.result c.from_residual.ensures.1 in
    let l = c.loop-place.invariant in
    rw (p.1, p.2) (in_row_tails _ c.in-Some.place (toks c.args.items.now) (toks c.loop-place.rest.now)
    (toks c.in-Some.behind.now) c.args.end c.in_err-row.field-0.0 l.so_far c.in-Some.ensures.some
    (c.closes.ensures.no c.if-closes.false) c.in_err-row.ensures.reads)

pub loop-place-preserved : goal.loop-place-preserved
loop-place-preserved c =
    let l = c.loop-place.invariant in
    record {
      shorter = omega (arith, c.in_ok-row.ensures.shorter, c.in-Some.ensures.shorter, l.shorter);
      so_far = rw (c.in_ok-push.ensures.ok, map_push) (each_step (behind (t.Outer o.Semicolon) row_format) _ _ _ _ _
          l.so_far (c.in-Some.ensures.some ∙ ap (λ (x : List Tok). sign (t.Outer o.Semicolon) c.in-Some.place ∷ x)
          c.in_ok-row.ensures.reads.0));
      may = c.in_ok-row.ensures.reads.2;
    }

pub returns-clause-reads : goal.returns-clause-reads
returns-clause-reads c =
    let l = c.loop-place.invariant in
    (l.so_far, tt, rows_end _ l.may c.in_default.ensures.none)

pub returns-then-closes-clause-reads : goal.returns-then-closes-clause-reads
returns-then-closes-clause-reads c =
    let l = c.loop-place.invariant in (
      l.so_far ∙ ap (λ (x : List Tok). put_each (put_behind (t.Outer o.Semicolon) put_row)
          (map row_tail_view c.loop-place.more) x) c.in-Some.ensures.some,
      tt,
      c.closes.ensures.yes c.if-closes.true,
    )
