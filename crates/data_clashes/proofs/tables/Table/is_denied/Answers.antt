use Rattle.std.proofs.Common.{◌∙◌}
use Rattle.data_clashes.proofs.KeyLemmas.{denied_is}
use Rattle.data_clashes.proofs.tables.Table.is_denied.Goals as goal

pub returns : goal.returns
returns c = c.contains.ensures ∙ denied_is c.args.self.now.denied.keys c.args.atom.now
