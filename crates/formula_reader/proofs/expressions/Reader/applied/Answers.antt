use Rattle.std.proofs.Common.{refl}
use Rattle.grammar.specs.Terminals.{toks}
use Rattle.grammar.specs.Trees.{atom, value}
use Rattle.grammar.specs.Spelling.{put_prim, put_factor}
use Rattle.grammar.specs.View.{app_view}
use Rattle.formula_reader.specs.Results.{wrap_prim, wrap_factor}
use Rattle.formula_reader.proofs.InOperands.{wrapped_put, operand_from}
use Rattle.formula_reader.proofs.expressions.Reader.applied.Goals as goal

pub returns-then-goes_on-clause-reads : goal.returns-then-goes_on-clause-reads
returns-then-goes_on-clause-reads g c =
    let read = c.begun.ensures.reads (λ h. absurd (c.goes_on.ensures.yes c.if-goes_on.true h)) in
    operand_from (put_prim (wrap_prim c.args.pairs (atom (app_view c.args.app))) (toks c.args.items.now))
    (put_factor (wrap_factor c.args.pairs (value (app_view c.args.app))) (toks c.args.items.now))
    c.args.self.now.end c.begun.result
    (wrapped_put c.args.pairs (app_view c.args.app) (toks c.args.items.now)) (rw c.in_ok-first.ensures.same at read)

pub returns-clause-reads : goal.returns-clause-reads
returns-clause-reads g c = record {
  spelled = refl;
  fine = c.requires.fine;
  ends =
      c.goes_on.ensures.no c.if-goes_on.false c.requires.ends;
}
