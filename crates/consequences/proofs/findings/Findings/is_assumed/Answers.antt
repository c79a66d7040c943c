use Rattle.consequences.proofs.IndexFacts.{has-key}
use Rattle.consequences.proofs.findings.Findings.is_assumed.Goals as goal

pub returns : goal.returns
returns c = has-key c.args.self.now.assumed.keys c.args.lit c.contains.result c.contains.ensures
