use Rattle.std.proofs.Common.{◌∷◌, [], ◌++◌, ◌∙◌, ap, sym}
use Rattle.std.proofs.lemmas.Result.{err_from_is_err_and}
use Rattle.grammar.specs.Terminals.{toks}
use Rattle.fo_reader.specs.FileResults.{block_view}
use Rattle.grammar.specs.BlockSpelling.{put_file}
use Rattle.block_reader.proofs.Formats.{each_step, push_fine}
use Rattle.fo_reader.proofs.TheoryFormats.{block_format}
use Rattle.fo_reader.proofs.InFile.{file_fails}
use Rattle.fo_reader.proofs.file.file.Goals as goal

pub returns-in_err-next : goal.returns-in_err-next
returns-in_err-next c =
    let p = err_from_is_err_and c.from_residual.result c.from_residual.ensures.1 in
    let l = c.turns.invariant in
    rw (p.1, p.2) (file_fails l.so_far.0 (toks c.args.items.now) (toks c.turns.rest.now) c.args.end
    c.in_err-next.field-0.0 l.so_far.1 l.so_far.2 (c.ends.ensures.no c.turns-test.true) c.in_err-next.ensures.reads)

pub turns-preserved : goal.turns-preserved
turns-preserved c =
    let l = c.turns.invariant in
    record {
      so_far = (
        l.so_far.0 ++ block_view c.in_ok-next.next ∷ [],
        each_step block_format l.so_far.0 (block_view c.in_ok-next.next) (toks c.args.items.now) (toks c.turns.rest.now)
            (toks c.in_ok-next.last.now) l.so_far.1 c.in_ok-next.ensures.reads.0,
        push_fine block_format l.so_far.0 (block_view c.in_ok-next.next) l.so_far.2 c.in_ok-next.ensures.reads.1,
        c.in_ok-add.ensures l.so_far.0 c.args.end l.so_far.3,
      );
    }

pub turns-init : goal.turns-init
turns-init c = record { so_far = ([], ap toks (sym c.start-count.ensures.same), tt, c.empty-kb.ensures) }

pub returns : goal.returns
returns c =
    let l = c.turns.invariant in (
      l.so_far.0,
      (
        l.so_far.1 ∙ ap (put_file l.so_far.0) (c.ends.ensures.yes c.turns-test.false),
        l.so_far.2,
      ),
      l.so_far.3,
    )
