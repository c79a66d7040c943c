use Rattle.std.proofs.Common.{ap, sym, ◌∙◌, arith}
use Rattle.kb_text.specs.Ends.{later_by}
use Rattle.kb_text.proofs.Closes.{close_next, close_end}
use Rattle.kb_text.proofs.ends.close_len.Goals as goal

pub loop-i-preserved : goal.loop-i-preserved
loop-i-preserved c = record {
  within = omega arith;
  rest = sym (close_next c.args.first c.args.second c.args.bytes.now c.loop-i.i c.loop-i-test.true (sym c.is_end.ensures
      ∙ c.if-is_end.false)) ∙ c.loop-i.invariant.rest;
}

pub returns-clause-value : goal.returns-clause-value
returns-clause-value c = sym (ap (later_by c.loop-i.i) (close_end c.args.first c.args.second c.args.bytes.now c.loop-i.i
    c.loop-i-test.false)) ∙ c.loop-i.invariant.rest
