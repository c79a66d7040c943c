use Rattle.narrowed_bases.proofs.One.{light_or_heavy}
use Rattle.narrowed_bases.proofs.laws.light_or_heavy.Goals as goal

pub returns : goal.returns
returns c = light_or_heavy
