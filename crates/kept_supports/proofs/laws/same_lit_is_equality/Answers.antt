use Rattle.kept_supports.proofs.KeptFacts.{same_lit_is_equality}
use Rattle.kept_supports.proofs.laws.same_lit_is_equality.Goals as goal

pub returns : goal.returns
returns c = same_lit_is_equality
