use Rattle.lit_core.proofs.Freshness.{fresh-fewer}
use Rattle.lit_core.proofs.laws.fresh_against_fewer.Goals as goal

pub returns : goal.returns
returns c = fresh-fewer
