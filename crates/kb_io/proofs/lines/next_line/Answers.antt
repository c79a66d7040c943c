use Rattle.kb_io.proofs.FirstLines.{next_line_is_first}
use Rattle.kb_io.proofs.lines.next_line.Goals as goal

pub returns-clause-lines : goal.returns-clause-lines
returns-clause-lines g c = rw (← c.state.view_is) (next_line_is_first _ _ _ _ _ _ _ c.next.ensures.next)
