use Rattle.printed_texts.proofs.FormulasReadBack.{formulas_are_read_back, depth_alone_is_refused}
use Rattle.printed_texts.proofs.formula_laws.formulas_are_read_back.Goals as goal

pub returns-clause-reads : goal.returns-clause-reads
returns-clause-reads c = formulas_are_read_back

pub returns-clause-deep : goal.returns-clause-deep
returns-clause-deep c = depth_alone_is_refused
