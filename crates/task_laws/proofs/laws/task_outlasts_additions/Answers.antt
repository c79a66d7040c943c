use Rattle.term_values.proofs.StructureLaws.{only-atoms-matter}
use Rattle.task_laws.proofs.Outlasting.{outlasts}
use Rattle.task_laws.proofs.laws.task_outlasts_additions.Goals as goal

pub returns : goal.returns
returns c = outlasts (λ b v w is agree. only-atoms-matter b is v w agree)
