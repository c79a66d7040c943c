use Rattle.consultant_session.proofs.HashedFacts.{told}
use Rattle.consultant_session.proofs.chosen.has_lit.Goals as goal

pub returns : goal.returns
returns c = told c.args.lits.now.keys c.args.lit c.contains.result c.contains.ensures
