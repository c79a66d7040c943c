use Rattle.found_models.proofs.FoundFacts.{is-seen}
use Rattle.found_models.proofs.laws.found_models_are_seen.Goals as goal

pub returns : goal.returns
returns c = λ base b p choices lits values h each is all. is-seen base b p h choices lits values each is all
