use Rattle.lit_core.proofs.FreshFromQuiet.{fresh-from_quiet}
use Rattle.lit_core.proofs.laws.quiet_leaves_fresh.Goals as goal

pub returns : goal.returns
returns c = λ a clauses d l quiet member free others. fresh-from_quiet a clauses d l quiet member free others
