use Rattle.file_laws.proofs.FileLaws.{sentences_are_read_back}
use Rattle.file_laws.proofs.laws.sentences_are_read_back.Goals as goal

pub returns : goal.returns
returns c = sentences_are_read_back
