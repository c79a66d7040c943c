use Rattle.base_reader.proofs.Unique.{meaning_one}
use Rattle.base_reader.proofs.laws.one_file_meaning.Goals as goal

pub returns : goal.returns
returns c = meaning_one c.one_file_reading.ensures
