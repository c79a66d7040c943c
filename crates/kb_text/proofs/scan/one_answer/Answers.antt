use Rattle.kb_text.proofs.Exists.{exactly_one}
use Rattle.kb_text.proofs.scan.one_answer.Goals as goal

pub returns : goal.returns
returns c = exactly_one
