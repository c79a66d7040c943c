use Rattle.std.proofs.Common.{arith, inr}
use Rattle.std.proofs.lemmas.Result.{err_from_is_err_and}
use Rattle.std.proofs.lemmas.List.{map_push}
use Rattle.grammar.specs.Terminals.{toks}
use Rattle.block_reader.proofs.Formats.{each_step}
use Rattle.block_reader.proofs.BlockFormats.{declaration_format}
use Rattle.block_reader.proofs.InVocabulary.{in_declarations}
use Rattle.block_reader.proofs.vocabulary.declarations.Goals as goal

pub returns-in_err-next-clause-reads : goal.returns-in_err-next-clause-reads
returns-in_err-next-clause-reads c =
    let p = err_from_is_err_and c.from_residual.result c.from_residual.ensures.1 in
    let l = c.declarations.invariant in
    rw (p.1, p.2) (in_declarations _ (toks c.args.items.now) (toks c.declarations.rest.now) c.args.end
    c.in_err-next.field-0.0 l.so_far l.started (c.closes.ensures.no c.declarations-test.true)
    c.in_err-next.ensures.reads)

pub declarations-preserved : goal.declarations-preserved
declarations-preserved c =
    let l = c.declarations.invariant in
    record {
      shorter = omega (arith, c.in_ok-next.ensures.shorter, l.shorter);
      so_far = rw (c.in_ok-push.ensures.ok, map_push) (each_step declaration_format _ _ _ _ _ l.so_far
          c.in_ok-next.ensures.reads.0);
      started = inr c.in_ok-next.ensures.reads.2;
    }
