use Rattle.open_sizes.proofs.Less.{open_is_less}
use Rattle.open_sizes.proofs.laws.open_is_less.Goals as goal

pub returns : goal.returns
returns c = open_is_less
