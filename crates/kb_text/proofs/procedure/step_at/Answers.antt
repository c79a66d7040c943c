use Rattle.kb_text.proofs.Passages.{step_fits}
use Rattle.kb_text.proofs.procedure.step_at.Goals as goal

pub returns-clause-within : goal.returns-clause-within
returns-clause-within c = rw (c.step_of.ensures, c.passage_at.ensures) (step_fits c.args.braces c.args.bytes.now)
