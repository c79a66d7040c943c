use Rattle.base_reader.proofs.Unique.{never_both}
use Rattle.base_reader.proofs.laws.accepted_or_refused.Goals as goal

pub returns : goal.returns
returns c = never_both c.one_file_reading.ensures
