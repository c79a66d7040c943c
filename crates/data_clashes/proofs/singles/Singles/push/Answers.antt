use Rattle.std.proofs.Common.{refl}
use Rattle.structure_entries.specs.EntryViews.{fact_view}
use Rattle.data_clashes.proofs.OpposingFacts.{kept_by, pushed}
use Rattle.data_clashes.proofs.singles.Singles.push.Goals as goal

pub returns : goal.returns
returns c = λ before s. pushed before (fact_view c.args.fact.now) c.args.self.now _ refl refl refl
    (λ t. kept_by c.args.fact.now.value (c.keeps-self.ensures t)) c.in_ok-push.ensures s
