use Rattle.consult_text.proofs.Parses.{one_outcome}
use Rattle.consult_text.proofs.Meanings.{one_meaning}
use Rattle.consult_text.proofs.laws.one_meaning.Goals as goal

pub returns : goal.returns
returns c = λ kb line. one_meaning kb line (one_outcome line c.one_answer.ensures)
