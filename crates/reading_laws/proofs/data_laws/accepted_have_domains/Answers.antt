use Rattle.reading_laws.proofs.GivenDomains.{accepted_have_domains}
use Rattle.reading_laws.proofs.data_laws.accepted_have_domains.Goals as goal

pub returns : goal.returns
returns c = accepted_have_domains
