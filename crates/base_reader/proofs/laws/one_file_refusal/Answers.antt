use Rattle.base_reader.proofs.Unique.{refusal_one}
use Rattle.base_reader.proofs.laws.one_file_refusal.Goals as goal

pub returns : goal.returns
returns c = refusal_one c.one_file_reading.ensures
