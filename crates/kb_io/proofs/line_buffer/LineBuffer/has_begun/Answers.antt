use Rattle.kb_io.proofs.Cutting.{let_go_is_some}
use Rattle.kb_io.proofs.line_buffer.LineBuffer.has_begun.Goals as goal

pub returns-in-Overlong : goal.returns-in-Overlong
returns-in-Overlong c = rw c.in-Overlong.is (record { some = λ _. let_go_is_some; none = λ not. cc })
