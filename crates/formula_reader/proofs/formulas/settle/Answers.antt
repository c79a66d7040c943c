use Rattle.grammar.specs.Terminals.{toks}
use Rattle.grammar.specs.View.{term_view, app_view}
use Rattle.formula_reader.proofs.InOperands.{app_is, term_stuck}
use Rattle.formula_reader.proofs.formulas.settle.Goals as goal

pub returns-in-Formula : goal.returns-in-Formula
returns-in-Formula c = record { reads = λ ts h. (rw c.in-Formula.is at h).0 }

pub returns-in_ok-unary-in-Either : goal.returns-in_ok-unary-in-Either
returns-in_ok-unary-in-Either c = record {
  reads = λ ts h. rw (
    c.in_ok-unary-in-Either.ensures,
    c.in_ok-inside-in-Either.ensures,
  ) (app_is ts (app_view c.in-Either.app) c.in-Either.pairs (toks c.args.rest.now)
      (rw c.in-Either.is at h));
}

pub returns-in-Term : goal.returns-in-Term
returns-in-Term c = record {
  reads = λ ts h.
      let found = rw c.in-Term.is at h in
      term_stuck (term_view c.in-Term._term) ts (toks c.args.rest.now) c.args.end c.place_at.result found.0 found.1
      found.2 c.place_at.ensures;
}
