use Rattle.fo_reader.proofs.InFile.{one_kb_reading}
use Rattle.fo_reader.proofs.block_laws.one_file_reading.Goals as goal

pub returns : goal.returns
returns c = one_kb_reading
