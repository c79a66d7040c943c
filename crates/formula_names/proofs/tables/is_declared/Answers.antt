use Rattle.std.proofs.Common.{◌∙◌}
use Rattle.formula_names.proofs.Listed.{is_listed}
use Rattle.formula_names.proofs.tables.is_declared.Goals as goal

pub returns : goal.returns
returns c = c.contains_key.ensures ∙ is_listed c.args.table.now.meanings.entries c.args.word.now
