use Rattle.data_clashes.proofs.OpposingFacts.{same_set}
use Rattle.data_clashes.proofs.singles.Singles.face.Goals as goal

pub returns-clause-kept : goal.returns-clause-kept
returns-clause-kept c = λ before s. record {
  runs = s.runs;
  known = λ t. same_set _ _ _ (s.runs c.args.fact.now.symbol c.args.fact.now.holds) c.in_ok-self.ensures;
}
