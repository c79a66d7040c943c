use Rattle.consult_text.proofs.ReplyTexts.{replies_same}
use Rattle.consult_text.proofs.laws.no_two_replies_have_one_text.Goals as goal

pub returns : goal.returns
returns c = replies_same
