use Rattle.std.proofs.Common.{refl}
use Rattle.kb_io.proofs.LineLemmas.{let_go_is_long}
use Rattle.kb_io.proofs.line_buffer.LineBuffer.finish.Goals as goal

pub returns-in-Overlong-clause-answer : goal.returns-in-Overlong-clause-answer
returns-in-Overlong-clause-answer c = rw c.in-Overlong.is (c.clear.ensures.items, refl, let_go_is_long)
