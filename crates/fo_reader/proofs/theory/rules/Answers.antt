use Rattle.std.proofs.Common.{arith}
use Rattle.std.proofs.lemmas.Result.{err_from_is_err_and}
use Rattle.std.proofs.lemmas.List.{map_push}
use Rattle.grammar.specs.Terminals.{toks}
use Rattle.block_reader.proofs.Formats.{each_step, push_fine}
use Rattle.fo_reader.proofs.TheoryFormats.{rule_format}
use Rattle.fo_reader.proofs.InTheory.{in_rules}
use Rattle.fo_reader.proofs.theory.rules.Goals as goal

pub returns-in_err-next-clause-reads : goal.returns-in_err-next-clause-reads
returns-in_err-next-clause-reads c =
    let p = err_from_is_err_and c.from_residual.result c.from_residual.ensures.1 in
    let l = c.rules.invariant in
    rw (p.1, p.2) (in_rules _ (toks c.args.items.now) (toks c.rules.rest.now) c.args.end c.in_err-next.field-0.0 l.fine
    l.so_far (c.closes.ensures.no c.rules-test.true) c.in_err-next.ensures.reads)

pub rules-preserved : goal.rules-preserved
rules-preserved c =
    let l = c.rules.invariant in
    record {
      shorter = omega (arith, c.in_ok-next.ensures.shorter, l.shorter);
      so_far = rw (c.in_ok-push.ensures.ok, map_push) (each_step rule_format _ _ _ _ _ l.so_far
          c.in_ok-next.ensures.reads.0);
      fine = rw (c.in_ok-push.ensures.ok, map_push) (push_fine rule_format _ _ l.fine c.in_ok-next.ensures.reads.1);
    }
