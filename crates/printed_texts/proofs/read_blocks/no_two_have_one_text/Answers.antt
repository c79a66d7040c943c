use Rattle.printed_texts.proofs.BlocksReadBack.{no_two_have_one_text}
use Rattle.printed_texts.proofs.read_blocks.no_two_have_one_text.Goals as goal

pub returns : goal.returns
returns c = no_two_have_one_text
