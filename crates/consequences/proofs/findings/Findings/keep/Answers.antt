use Rattle.consequences.proofs.IndexFacts.{kept-one}
use Rattle.consequences.proofs.findings.Findings.keep.Goals as goal

pub returns-clause-indexed : goal.returns-clause-indexed
returns-clause-indexed c = kept-one c.args.self.now.lits.keys c.insert_full.new.self.keys c.args.self.now.kept
    c.push.new.self c.args.forced c.requires c.in_ok-insert_full.ensures.keys c.in_ok-push.ensures.ok
