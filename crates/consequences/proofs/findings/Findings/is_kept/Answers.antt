use Rattle.consequences.proofs.IndexFacts.{looked-up}
use Rattle.consequences.proofs.findings.Findings.is_kept.Goals as goal

pub returns : goal.returns
returns c = looked-up c.args.self.now.lits.keys c.args.self.now.kept c.args.lit c.contains.result c.requires
    c.contains.ensures
