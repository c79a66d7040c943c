use Rattle.narrowed_bases.proofs.Right.{narrowed_is_right}
use Rattle.narrowed_bases.proofs.laws.narrowed_is_right.Goals as goal

pub returns : goal.returns
returns c = narrowed_is_right
