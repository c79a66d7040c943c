use Rattle.grammar.specs.Terminals.{toks}
use Rattle.formula_reader.proofs.InFactors.{factor_none, factor_other, unsigned_from}
use Rattle.formula_reader.proofs.expressions.Reader.unsigned.Goals as goal

pub returns-in_default-clause-reads : goal.returns-in_default-clause-reads
returns-in_default-clause-reads g c = factor_none (toks c.args.items.now) c.args.self.now.end c.in_default.ensures.none

pub returns-in-Word-clause-reads : goal.returns-in-Word-clause-reads
returns-in-Word-clause-reads g c =
    let some = c.in-Some.ensures.some in
    unsigned_from (toks c.args.items.now) _ c.args.self.now.end c.valued.result (rw c.in-Word.is at some)
    c.valued.ensures.reads

pub returns-in_default-terminal : goal.returns-in_default-terminal
returns-in_default-terminal g c = record {
  reads = factor_other (toks c.args.items.now) c.args.self.now.end c.in-Some.item (toks c.in-Some.rest.now)
      c.in-Some.ensures.some
      c.in_default-terminal.not-Integer c.in_default-terminal.not-Word c.in_default-terminal.not-Open
      c.in_default-terminal.not-Count c.in_default-terminal.not-Aggregate c.requires.unsigned;
  shorter = tt;
}
