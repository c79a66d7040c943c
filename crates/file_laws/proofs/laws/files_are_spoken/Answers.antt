use Rattle.file_laws.proofs.FileLaws.{files_are_spoken}
use Rattle.file_laws.proofs.laws.files_are_spoken.Goals as goal

pub returns : goal.returns
returns c = files_are_spoken
