use Rattle.file_laws.proofs.Given.{accepted_are_listed}
use Rattle.file_laws.proofs.accepted_blocks.accepted_are_listed.Goals as goal

pub returns : goal.returns
returns c = accepted_are_listed
