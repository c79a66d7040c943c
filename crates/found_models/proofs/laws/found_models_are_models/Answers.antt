use Rattle.found_models.proofs.FoundFacts.{model-under}
use Rattle.found_models.proofs.laws.found_models_are_models.Goals as goal

pub returns : goal.returns
returns c = λ base b p choices lits values h each is all. model-under base b p h choices lits values each is all
