use Rattle.data_domains.proofs.listing.Listing.new.Goals as goal
use Rattle.std.proofs.Common.{arith}
use Rattle.std.proofs.lemmas.Grind.{common_steps}

pub returns-clause-listing : goal.returns-clause-listing
returns-clause-listing c = grind (arith, common_steps)
