use Rattle.std.proofs.Common.{arith}
use Rattle.std.proofs.lemmas.Result.{err_from_is_err_and}
use Rattle.std.proofs.lemmas.List.{map_push}
use Rattle.grammar.specs.Terminals.{toks}
use Rattle.block_reader.proofs.Formats.{each_step}
use Rattle.block_reader.proofs.StructureFormats.{entry_format}
use Rattle.block_reader.proofs.InStructure.{in_entries}
use Rattle.block_reader.proofs.structure.entries.Goals as goal

pub returns-in_err-next-clause-reads : goal.returns-in_err-next-clause-reads
returns-in_err-next-clause-reads c =
    let p = err_from_is_err_and c.from_residual.result c.from_residual.ensures.1 in
    let l = c.entries.invariant in
    rw (p.1, p.2) (in_entries _ (toks c.args.items.now) (toks c.entries.rest.now) c.args.end c.in_err-next.field-0.0
    l.so_far (c.closes.ensures.no c.entries-test.true) c.in_err-next.ensures.reads)

pub entries-preserved : goal.entries-preserved
entries-preserved c =
    let l = c.entries.invariant in
    record {
      shorter = omega (arith, c.in_ok-next.ensures.shorter, l.shorter);
      so_far = rw (c.in_ok-push.ensures.ok, map_push) (each_step entry_format _ _ _ _ _ l.so_far
          c.in_ok-next.ensures.reads.0);
    }
