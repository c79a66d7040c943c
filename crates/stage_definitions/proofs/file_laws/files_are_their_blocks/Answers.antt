use Rattle.stage_definitions.proofs.OneFile.{one_file}
use Rattle.stage_definitions.proofs.file_laws.files_are_their_blocks.Goals as goal

pub returns : goal.returns
returns c = one_file
