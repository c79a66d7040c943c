use Rattle.file_laws.proofs.AcceptedBlocks.{accepted_are_read_back}
use Rattle.file_laws.proofs.accepted_blocks.accepted_are_read_back.Goals as goal

pub returns : goal.returns
returns c = accepted_are_read_back
