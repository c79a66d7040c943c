use Rattle.printed_texts.proofs.BlocksReadBack.{blocks_are_read_back}
use Rattle.printed_texts.proofs.read_blocks.blocks_are_read_back.Goals as goal

pub returns : goal.returns
returns c = blocks_are_read_back
