use Rattle.printed_texts.proofs.Spelled.{is_spelled}
use Rattle.printed_texts.proofs.block_laws.blocks_are_spelled.Goals as goal

pub returns : goal.returns
returns c = is_spelled
