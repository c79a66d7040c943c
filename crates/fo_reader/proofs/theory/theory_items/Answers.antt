use Rattle.std.proofs.Common.{arith}
use Rattle.std.proofs.lemmas.Result.{err_from_is_err_and}
use Rattle.std.proofs.lemmas.List.{map_push}
use Rattle.grammar.specs.Terminals.{toks}
use Rattle.block_reader.proofs.Formats.{each_step, push_fine}
use Rattle.fo_reader.proofs.TheoryFormats.{theory_item_format}
use Rattle.fo_reader.proofs.InTheory.{in_theory_items}
use Rattle.fo_reader.proofs.theory.theory_items.Goals as goal

pub returns-in_err-next-clause-reads : goal.returns-in_err-next-clause-reads
returns-in_err-next-clause-reads c =
    let p = err_from_is_err_and c.from_residual.result c.from_residual.ensures.1 in
    let l = c.items.invariant in
    rw (p.1, p.2) (in_theory_items _ (toks c.args.items.now) (toks c.items.rest.now) c.args.end c.in_err-next.field-0.0
    l.fine l.so_far (c.closes.ensures.no c.items-test.true) c.in_err-next.ensures.reads)

pub items-preserved : goal.items-preserved
items-preserved c =
    let l = c.items.invariant in
    record {
      shorter = omega (arith, c.in_ok-next.ensures.shorter, l.shorter);
      so_far = rw (c.in_ok-push.ensures.ok, map_push) (each_step theory_item_format _ _ _ _ _ l.so_far
          c.in_ok-next.ensures.reads.0);
      fine = rw (c.in_ok-push.ensures.ok, map_push) (push_fine theory_item_format _ _ l.fine
          c.in_ok-next.ensures.reads.1);
    }
