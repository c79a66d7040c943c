use Rattle.file_laws.proofs.FileLaws.{structures_are_read_back}
use Rattle.file_laws.proofs.laws.structures_are_read_back.Goals as goal

pub returns : goal.returns
returns c = structures_are_read_back
