use Rattle.logic_laws.proofs.DomainsOf.{domain_examples}
use Rattle.logic_laws.proofs.laws.domain_examples.Goals as goal

pub returns : goal.returns
returns c = domain_examples
