use Rattle.found_models.proofs.FoundFacts.{cut-found}
use Rattle.found_models.proofs.laws.satisfying_values_are_found.Goals as goal

pub returns : goal.returns
returns c = λ base b p lits values last h problem sat short enough.
    cut-found base b p h problem lits values last sat short enough
