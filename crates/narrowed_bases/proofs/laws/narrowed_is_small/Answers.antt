use Rattle.narrowed_bases.proofs.Small.{narrowed_is_small}
use Rattle.narrowed_bases.proofs.laws.narrowed_is_small.Goals as goal

pub returns : goal.returns
returns c = narrowed_is_small
