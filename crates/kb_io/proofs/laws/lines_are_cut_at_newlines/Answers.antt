use Rattle.kb_io.proofs.LineLemmas.{lines_are_cut}
use Rattle.kb_io.proofs.laws.lines_are_cut_at_newlines.Goals as goal

pub returns : goal.returns
returns c = lines_are_cut
