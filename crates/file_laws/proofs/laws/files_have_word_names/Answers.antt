use Rattle.file_laws.proofs.FileLaws.{files_have_word_names}
use Rattle.file_laws.proofs.laws.files_have_word_names.Goals as goal

pub returns : goal.returns
returns c = files_have_word_names
